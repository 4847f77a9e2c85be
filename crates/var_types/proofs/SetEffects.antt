-- What a set leaves: one change at its key, or the state as it was; at runtime nothing that is hidden; and what an append joins.
use Rattle.std.proofs.Common.{◌≡◌, ◌≢◌, ℕ, Bool, true, false, cond, List, [], ◌∷◌, ◌++◌, Option, Some, None, refl, sym, ap, ◌∙◌, subst, ⊎_elim, true≢false, is_eq}
use Rattle.std.proofs.lemmas.Bool.{cases_Bool}
use Rattle.std.proofs.lemmas.Nat.{and_assoc}
use Rattle.std.specs.BTreeMap.{is_at}
use Rattle.std.specs.Cmp.{Equal-is}
use Rattle.std.specs.Int.Bits.{and_zero_r}
use Rattle.std.specs.Map.{lookup, remove_entry}
use Rattle.std.specs.Prelude.{not, ◌==◌, ◌&&◌}
use Rattle.var_types.proofs.Entries.{lookup-insert_entry}
use Rattle.var_types.proofs.Keys.{key_cmp_total, same_key}
use Rattle.var_types.proofs.SetCases.{Passed, is_edit, passed_edit}
use Rattle.var_types.proofs.SetChanges.{not_fails, not_missing}
use Rattle.var_types.proofs.SetSizes.{no_refusal, second_fails}
use Rattle.var_types.specs.Attributes.{has, is_append, non_volatile_bit, runtime_access_bit, without_append}
use Rattle.var_types.specs.Key.{key_cmp}
use Rattle.var_types.specs.Reading.{Reading, deletes, kept_bytes, made_of, reading_of, set_key}
use Rattle.var_types.specs.Set.{decided, decision, set_step, variable_by}
use Rattle.var_types.specs.SetCases.{hidden_case, missing_case, runtime_new_case, volatile_case}
use Rattle.var_types.specs.SetLaws.{IsButForStamp, IsKeptAndSeen, IsOneChange, TouchesSeen}
use Rattle.var_types.specs.State.{State, stored_at}
use Rattle.var_types.specs.declared.call.SetCall.{SetCall}
use Rattle.var_types.specs.declared.decision.Decision.{Decision}
use Rattle.var_types.specs.declared.decision.Decision.TheVariants.{Refuse, Same, Remove, Write}
use Rattle.var_types.specs.declared.key.Key.{Key}
use Rattle.var_types.specs.declared.reply.SetReply.TheVariants.{Ok as Changed}
use Rattle.var_types.specs.declared.variable.Variable.{Variable}

-- a look-up that passes where an entry that goes doesn't finds what it found
lookup_apart : {K X : Type 0} (gone test : K → Bool) (es : List (K × X)) → ((k : K) → gone k ≡ true → test k ≡ false)
    → lookup test (remove_entry gone es) ≡ lookup test es
lookup_apart gone test [] apart = refl
lookup_apart gone test (e ∷ es) apart = by (gone e.0) refl (lookup_apart gone test es apart)
  where
    by : (goes : Bool) → gone e.0 ≡ goes → lookup test (remove_entry gone es) ≡ lookup test es
        → lookup test (cond goes es (e ∷ remove_entry gone es)) ≡ cond (test e.0) (Some e.1) (lookup test es)
    by true goes later = ap (λ passes. cond passes (Some e.1) (lookup test es)) (sym (apart e.0 goes))
    by false goes later = ap (cond (test e.0) (Some e.1)) later

-- keys that compare alike are one, and else they are not
alike_keys : (a b : Key) → is_eq (key_cmp a b) ≡ true → a ≡ b
alike_keys a b alike = same_key a b ((Equal-is (key_cmp a b)).0 alike)

apart_keys : (a b : Key) → a ≢ b → is_eq (key_cmp a b) ≡ false
apart_keys a b apart = ⊎_elim (λ alike. absurd (apart (alike_keys a b alike))) (λ no. no) (cases_Bool (is_eq (key_cmp a b)))

module _ (state : State) (call : SetCall) where
  -- a set that isn't answered Ok leaves the state, by what it comes to
  others_by : (d : Decision) → (decided state call d).0 ≢ Changed → (decided state call d).1 ≡ state
  others_by (Refuse reason) other = refl
  others_by Same other = refl
  others_by (Remove store) other = absurd (other refl)
  others_by (Write attributes stamp skip append) other = absurd (other refl)

  pub others_leave : (set_step state call).0 ≢ Changed → (set_step state call).1 ≡ state
  unfolding set_step
  others_leave other = others_by (decision state call) other

  -- a key that is not the set's is apart from each that is
  apart_from : (other : Key) → other ≢ set_key call → (k : Key) → is_at (key_cmp (set_key call)) k ≡ true → is_at (key_cmp other) k ≡ false
  apart_from other apart k at = apart_keys other k (λ same. apart (same ∙ sym (alike_keys (set_key call) k at)))

  -- a set that is answered Ok is one change at its key, by what it comes to
  one_change_by : (d : Decision) → (decided state call d).0 ≡ Changed → IsOneChange state (decided state call d).1 (set_key call)
  one_change_by (Refuse reason) ok = cc
  one_change_by Same ok = cc
  one_change_by (Remove store) ok = record {
    counted = refl;
    others = λ other apart.
        lookup_apart (is_at (key_cmp (set_key call))) (is_at (key_cmp other)) state.variables (apart_from other apart);
    policies = refl;
    policy_on = refl;
    locked = refl;
    runtime = refl;
    limit = refl;
  }
  one_change_by (Write attributes stamp skip append) ok =
      let made = variable_by call (stored_at state (set_key call)) attributes stamp skip append in
      record {
        counted = refl;
        others = λ other apart.
            lookup-insert_entry key_cmp_total (set_key call) made state.variables other
            ∙ ap (λ same. cond same (Some made) (stored_at state other)) (apart_keys other (set_key call) apart);
        policies = refl;
        policy_on = refl;
        locked = refl;
        runtime = refl;
        limit = refl;
      }

  pub one_change : (set_step state call).0 ≡ Changed → IsOneChange state (set_step state call).1 (set_key call)
  unfolding set_step
  one_change ok = one_change_by (decision state call) ok

  -- a set that is answered Ok comes to a change
  edit_by : (d : Decision) → (decided state call d).0 ≡ Changed → is_edit d ≡ true
  edit_by (Refuse reason) ok = cc
  edit_by Same ok = cc
  edit_by (Remove store) ok = refl
  edit_by (Write attributes stamp skip append) ok = refl

  -- so none of the cases holds
  passed_ok : (set_step state call).0 ≡ Changed → Passed state (reading_of state call)
  unfolding set_step
  passed_ok ok = passed_edit state call (edit_by (decision state call) ok)

-- what is stored has a bit
stored_has : (attributes bits : ℕ) → not (has attributes bits) ≡ false → has attributes bits ≡ true
stored_has attributes bits lacks = not_fails (has attributes bits) lacks

-- at runtime what is stored has runtime access
seen_stored : (runtime : Bool) (variable : Variable) → runtime ≡ true → hidden_case runtime (Some variable) ≡ None
    → has variable.attributes runtime_access_bit ≡ true
unfolding hidden_case
seen_stored runtime variable at passed =
    stored_has variable.attributes runtime_access_bit (second_fails runtime (not (has variable.attributes runtime_access_bit)) at (no_refusal _ _ passed))

-- at runtime what is stored is non-volatile
kept_stored : (runtime : Bool) (variable : Variable) → runtime ≡ true → volatile_case runtime (Some variable) ≡ None
    → has variable.attributes non_volatile_bit ≡ true
unfolding volatile_case
kept_stored runtime variable at passed =
    stored_has variable.attributes non_volatile_bit (second_fails runtime (not (has variable.attributes non_volatile_bit)) at (no_refusal _ _ passed))

-- two tests that hold together
both_hold : (a b : Bool) → (a && b) ≡ true → (b ≡ true) × (a ≡ true)
both_hold true b both = (both, refl)
both_hold false b both = cc

-- at runtime a new variable is non-volatile and has runtime access
new_seen : (runtime : Bool) (attributes : ℕ) (deletion : Bool) → runtime ≡ true → deletion ≡ false
    → runtime_new_case runtime None attributes deletion ≡ None → IsKeptAndSeen attributes
unfolding runtime_new_case
new_seen runtime attributes deletion at kept passed =
    let is_kept = has attributes non_volatile_bit in
    let is_seen = has attributes runtime_access_bit in
    let fails = second_fails runtime (true && (not deletion && not (is_kept && is_seen))) at (no_refusal _ _ passed) in
    let stays : not deletion ≡ true = ap not kept in
    both_hold is_kept is_seen (not_fails (is_kept && is_seen) (second_fails (not deletion) (not (is_kept && is_seen)) stays fails))

-- at runtime a change touches what callers see, by what is stored
touches_by : (state : State) (set : Reading) (stored : Option Variable) → set.stored ≡ stored → state.runtime ≡ true → Passed state set
    → TouchesSeen set.call stored
touches_by state set None is at p =
    let IsNew : Option Variable → Type 0 = λ found. runtime_new_case state.runtime found set.call.attributes (deletes set) ≡ None in
    let IsThere : Option Variable → Type 0 = λ found. missing_case found (deletes set) set.payload ≡ None in
    new_seen state.runtime set.call.attributes (deletes set) at (not_missing (deletes set) set.payload (subst IsThere is p.missing))
    (subst IsNew is p.runtime_new)
touches_by state set (Some variable) is at p =
    let IsSeen : Option Variable → Type 0 = λ found. hidden_case state.runtime found ≡ None in
    let IsKept : Option Variable → Type 0 = λ found. volatile_case state.runtime found ≡ None in
    (seen_stored state.runtime variable at (subst IsSeen is p.hidden), kept_stored state.runtime variable at (subst IsKept is p.volatile))

-- at runtime a change touches what callers see
pub runtime_seen : (state : State) (call : SetCall) → state.runtime ≡ true → (set_step state call).0 ≡ Changed
    → TouchesSeen call (stored_at state (set_key call))
runtime_seen state call at ok =
    touches_by state (reading_of state call) (stored_at state (set_key call)) refl at (passed_ok state call ok)

module _ (state : State) (call : SetCall) (key : Key) (variable : Variable) (at : state.runtime ≡ true)
    (is : stored_at state key ≡ Some variable) (hides : has variable.attributes runtime_access_bit ≡ false) where
  -- at runtime a change isn't one at the key of a variable that callers don't see
  not_hidden : (set_step state call).0 ≡ Changed → key ≢ set_key call
  not_hidden ok same =
      let here : stored_at state (set_key call) ≡ Some variable = ap (stored_at state) (sym same) ∙ is in
      let touches : TouchesSeen call (Some variable) = subst (TouchesSeen call) here (runtime_seen state call at ok) in
      true≢false (sym touches.0 ∙ hides)

  -- so the variable stays, by what the set comes to
  stays_by : (d : Decision) → ((decided state call d).0 ≡ Changed → key ≢ set_key call) → stored_at (decided state call d).1 key ≡ Some variable
  stays_by (Refuse reason) apart = is
  stays_by Same apart = is
  stays_by (Remove store) apart = (one_change_by state call (Remove store) refl).others key (apart refl) ∙ is
  stays_by (Write attributes stamp skip append) apart =
      (one_change_by state call (Write attributes stamp skip append) refl).others key (apart refl) ∙ is

  -- at runtime a variable that callers don't see stays
  pub hidden_stays : stored_at (set_step state call).1 key ≡ Some variable
  unfolding set_step
  hidden_stays = stays_by (decision state call) not_hidden

-- attributes without the bit of an append have it no more
no_append : (attributes : ℕ) → is_append (without_append attributes) ≡ false
no_append attributes = ap (λ bits. not (bits == 0)) (and_assoc 0x40 attributes 0xFFFFFFBF ∙ and_zero_r attributes)

-- it is taken away once
append_once : (attributes : ℕ) → without_append (without_append attributes) ≡ without_append attributes
append_once attributes = and_assoc 0xFFFFFFBF attributes 0xFFFFFFBF

-- nothing stays before the payload of a set that doesn't append
kept_none : (append : Bool) (stored : Option Variable) → append ≡ false → kept_bytes append stored ≡ []
kept_none append None plain = refl
kept_none true (Some variable) plain = cc
kept_none false (Some variable) plain = refl

-- what is stored stays before the payload of an append
kept_some : (append : Bool) (stored : Option Variable) (variable : Variable) → append ≡ true → stored ≡ Some variable
    → kept_bytes append stored ≡ variable.bytes
kept_some append stored variable appends is =
    let Keeps : Option Variable → Type 0 = λ found. kept_bytes append found ≡ variable.bytes in
    subst Keeps (sym is) (by append appends)
  where
    by : (flag : Bool) → flag ≡ true → kept_bytes flag (Some variable) ≡ variable.bytes
    by true t = refl
    by false t = cc

-- an append makes the variable that a set of the joined bytes makes, but for the stamp
pub appends_join : (state : State) (call joined : SetCall) (variable : Variable) → is_append call.attributes ≡ true
    → stored_at state (set_key call) ≡ Some variable → joined.attributes ≡ without_append call.attributes
    → (reading_of state joined).payload ≡ variable.bytes ++ (reading_of state call).payload
    → IsButForStamp (made_of (reading_of state call)) (made_of (reading_of state joined))
unfolding made_of
appends_join state call joined variable appends is asked payload =
    let plain : is_append joined.attributes ≡ false = ap is_append asked ∙ no_append call.attributes in
    let first = kept_some (is_append call.attributes) (stored_at state (set_key call)) variable appends is in
    let none = kept_none (is_append joined.attributes) (stored_at state (set_key joined)) plain in
    record {
      attributes = sym (ap without_append asked ∙ append_once call.attributes);
      bytes = ap (λ (front : List ℕ). front ++ (reading_of state call).payload) first
          ∙ sym payload
          ∙ ap (λ (front : List ℕ). front ++ (reading_of state joined).payload) (sym none);
    }
