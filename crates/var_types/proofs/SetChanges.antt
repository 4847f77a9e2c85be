-- What a set that comes to a change may rely on, and what it leaves.
use Rattle.std.proofs.Common.{◌≡◌, ℕ, ◌+◌, ◌%◌, ◌^◌, ◌<◌, ◌≤◌, Bool, true, false, List, ◌++◌, length, drop, Option, Some, None, refl, sym, ap, ◌∙◌, subst, arith}
use Rattle.std.proofs.lemmas.Bool.{eqb-true, leb-false, ltb-false}
use Rattle.std.proofs.lemmas.Grind.{and_high_numeral}
use Rattle.std.proofs.lemmas.Nat.{and_le_l}
use Rattle.std.specs.Prelude.{bit_and, not, ◌==◌, ◌||◌, if◌then◌else◌, Result, Ok, Err, IsSome, IfSome}
use Rattle.var_types.proofs.Descriptors.{within}
use Rattle.var_types.proofs.SetCases.{Passed, edit_is_change, is_edit, passed_edit}
use Rattle.var_types.proofs.SetSizes.{made_size, no_refusal, payload_fits, second_fails}
use Rattle.var_types.specs.Attributes.{has_access, is_append, is_time_based, store_of, without_append}
use Rattle.var_types.specs.Descriptor.{descriptor_of}
use Rattle.var_types.specs.Layout.{largest_record}
use Rattle.var_types.specs.Name.{name_check}
use Rattle.var_types.specs.Reading.{Reading, deletes, front_of, is_deletion, kept_bytes, made_of, reading_of, set_key, skip_of}
use Rattle.var_types.specs.Room.{record_size, room_limit, room_needed}
use Rattle.var_types.specs.Set.{change_of, change_over, decided, decision, set_step, variable_by}
use Rattle.var_types.specs.SetCases.{differ_case, history_case, missing_case, name_case, room_case, unknown_case}
use Rattle.var_types.specs.Stamps.{no_stamp}
use Rattle.var_types.specs.SetLaws.{Follows, MayPut}
use Rattle.var_types.specs.State.{State, stored_at}
use Rattle.var_types.specs.declared.call.SetCall.{SetCall}
use Rattle.var_types.specs.declared.decision.Decision.{Decision}
use Rattle.var_types.specs.declared.decision.Decision.TheVariants.{Refuse, Same, Remove, Write}
use Rattle.var_types.specs.declared.descriptor.Descriptor.{Descriptor}
use Rattle.var_types.specs.declared.descriptor.DescriptorFault.{DescriptorFault}
use Rattle.var_types.specs.declared.name.NameFault.{NameFault}
use Rattle.var_types.specs.declared.stamp.Stamp.{Stamp}
use Rattle.var_types.specs.declared.variable.Variable.{Variable}

-- what a test says that doesn't hold
pub not_fails : (b : Bool) → not b ≡ false → b ≡ true
not_fails true fails = refl
not_fails false fails = cc

either_fails : (a b : Bool) → (a || b) ≡ false → (a ≡ false) × (b ≡ false)
either_fails true b fails = cc
either_fails false b fails = (refl, fails)

-- the name is well-formed
named : (found : Result (Unit {0}) NameFault) → name_case found ≡ None → found ≡ Ok tt
unfolding name_case
named (Ok u) passed = refl
named (Err fault) passed = cc

-- the history holds one more change
more : (made limit : ℕ) → history_case made limit ≡ None → made < limit
unfolding history_case
more made limit passed = leb-false limit made (no_refusal _ _ passed)

-- where nothing is stored, nothing is deleted
pub not_missing : (deletion : Bool) (payload : List ℕ) → missing_case None deletion payload ≡ None → deletion ≡ false
unfolding missing_case
not_missing deletion payload passed = (either_fails deletion (length payload == 0) (no_refusal _ _ passed)).0

-- a set that doesn't delete has an access bit
has_one : (attributes : ℕ) (payload : List ℕ) → is_deletion attributes payload ≡ false → has_access attributes ≡ true
has_one attributes payload kept = not_fails (has_access attributes) (either_fails (not (has_access attributes)) _ kept).0

kept_access : (set : Reading) → deletes set ≡ false → has_access set.call.attributes ≡ true
unfolding deletes
kept_access set kept = has_one set.call.attributes set.payload kept

-- what is stored has the attributes that a set with an access bit leaves
same_attributes : (attributes : ℕ) (variable : Variable) → has_access attributes ≡ true → differ_case (Some variable) attributes ≡ None
    → variable.attributes ≡ without_append attributes
unfolding differ_case
same_attributes attributes variable access passed =
    let equal = not_fails _ (second_fails (has_access attributes) (not (without_append attributes == variable.attributes)) access (no_refusal _ _ passed)) in
    sym (eqb-true (without_append attributes) variable.attributes equal)

-- the room is large enough
room_fits : (need have : ℕ) → room_case false need have ≡ None → need ≤ have
unfolding room_case
room_fits need have passed = ltb-false have need (no_refusal _ _ passed)

-- what stands before the payload is no longer than the bytes
skip_within : (bytes : List ℕ) (front : Result Descriptor DescriptorFault) → descriptor_of bytes ≡ front → skip_of bytes front ≤ length bytes
skip_within bytes (Ok descriptor) read = within bytes descriptor read
skip_within bytes (Err fault) read = omega arith

front_within : (call : SetCall) → skip_of call.bytes (front_of call) ≤ length call.bytes
front_within call = by (is_time_based call.attributes)
  where
    by : (timed : Bool)
        → skip_of call.bytes (if timed then descriptor_of call.bytes else Ok (record { stamp = no_stamp; length = 0 })) ≤ length call.bytes
    by true = skip_within call.bytes (descriptor_of call.bytes) refl
    by false = omega arith

-- attributes without an unknown bit
known_bits : (attributes : ℕ) → unknown_case attributes ≡ None → attributes < 2 ^ 32 → without_append attributes < 256
unfolding unknown_case
known_bits attributes passed range =
    let none : bit_and attributes 0xFFFFFF00 ≡ 0 = eqb-true (bit_and attributes 0xFFFFFF00) 0 (not_fails _ (no_refusal _ _ passed)) in
    let parts : bit_and attributes 0xFFFFFF00 + attributes % 256 ≡ attributes = and_high_numeral attributes 4294967039 refl range in
    let fewer : bit_and attributes 0xFFFFFFBF ≤ attributes = and_le_l attributes 0xFFFFFFBF in
    omega arith

-- a set as the rule reads it, with what is stored
abbrev set_over : SetCall → Option Variable → Reading
set_over call stored = record {
  call = call;
  stored = stored;
  front = front_of call;
  payload = drop (skip_of call.bytes (front_of call)) call.bytes;
}

-- what a write of this stamp says of what is stored, of which some stays
record IsWrite (state : State) (call : SetCall) (stays : Bool) (stamp : Stamp) (stored : Option Variable) : Type 0 where
  made : variable_by call stored (without_append call.attributes) stamp (skip_of call.bytes (front_of call)) stays
      ≡ made_of (set_over call stored)
  size : record_size call.name (made_of (set_over call stored)).bytes ≤ largest_record
  room : room_needed state (set_key call) (made_of (set_over call stored)) ≤ room_limit (store_of (without_append call.attributes))
  alike : IfSome stored (λ variable. variable.attributes ≡ without_append call.attributes)
  there : stays ≡ true → IsSome stored

module _ (state : State) (call : SetCall) where
  -- a set that is no deletion makes such a write
  is_write : (stored : Option Variable) (stays : Bool) → Passed state (set_over call stored) → deletes (set_over call stored) ≡ false
      → kept_bytes stays stored ≡ kept_bytes (is_append call.attributes) stored
      → IfSome stored (λ variable. variable.attributes ≡ without_append call.attributes) → (stays ≡ true → IsSome stored)
      → IsWrite state call stays (made_of (set_over call stored)).stamp stored
  unfolding made_of
  is_write stored stays p kept same alike there =
      let set : Reading = set_over call stored in
      let need = room_needed state (set_key call) (made_of set) in
      let have = room_limit (store_of (without_append call.attributes)) in
      let Passes : Bool → Type 0 = λ deletion. room_case deletion need have ≡ None in
      record {
        made = ap (λ (front : List ℕ). record (made_of set) { bytes = front ++ set.payload }) same;
        size = made_size set kept (payload_fits call.name set.payload p.size) p.append_size;
        room = room_fits need have (subst Passes kept p.room);
        alike = alike;
        there = there;
      }

  -- what a write may rely on
  follows_write : (stored : Option Variable) (stays : Bool) (stamp : Stamp) → stored_at state (set_key call) ≡ stored
      → Passed state (set_over call stored) → IsWrite state call stays stamp stored
      → MayPut state call (without_append call.attributes) stamp (skip_of call.bytes (front_of call)) stays
  follows_write stored stays stamp is p write =
      let here : IsWrite state call stays stamp (stored_at state (set_key call)) = subst (IsWrite state call stays stamp) (sym is) write in
      record {
        named = named (name_check call.name) p.name;
        more = more state.made state.limit p.history;
        made = here.made;
        size = here.size;
        room = here.room;
        alike = here.alike;
        appended = here.there;
        within = front_within call;
        known = known_bits call.attributes p.unknown;
      }

  -- what the change of a set may rely on, with what is stored
  follows_over : (stored : Option Variable) → stored_at state (set_key call) ≡ stored → Passed state (set_over call stored)
      → Follows state call (change_over (set_over call stored) stored)
  follows_over None is p =
      follows_write None false (made_of (set_over call None)).stamp is p
      (is_write None false p (not_missing (deletes (set_over call None)) (set_over call None).payload p.missing) refl tt (λ h. h))
  follows_over (Some variable) is p = by (deletes (set_over call (Some variable))) refl
    where
      by : (deletion : Bool) → deletes (set_over call (Some variable)) ≡ deletion
          → Follows state call
          (if deletion then Remove (store_of variable.attributes)
          else Write (without_append call.attributes) (made_of (set_over call (Some variable))).stamp (skip_of call.bytes (front_of call))
          (is_append call.attributes))
      by true deletion = record {
        named = named (name_check call.name) p.name;
        variable = variable;
        stored = is;
        in_store = refl;
        more = more state.made state.limit p.history;
      }
      by false kept =
          follows_write (Some variable) (is_append call.attributes) (made_of (set_over call (Some variable))).stamp is p
          (is_write (Some variable) (is_append call.attributes) p kept refl
          (same_attributes call.attributes variable (kept_access (set_over call (Some variable)) kept) p.differ) (λ h. refl))

  -- what the change of a set may rely on
  follows_change : Passed state (reading_of state call) → Follows state call (change_of (reading_of state call))
  unfolding change_of
  follows_change p = follows_over (stored_at state (set_key call)) refl p

  -- what a change that a set comes to may rely on
  follows_edit : (d : Decision) → d ≡ decision state call → is_edit d ≡ true → Follows state call d
  follows_edit d is edit =
      let comes : is_edit (decision state call) ≡ true = sym (ap is_edit is) ∙ edit in
      subst (Follows state call) (sym (edit_is_change state call comes).1 ∙ sym is) (follows_change (passed_edit state call comes))

  -- what those who carry out what a set comes to may rely on
  pub follows : (d : Decision) → d ≡ decision state call → Follows state call d
  follows (Refuse reason) is = tt
  follows Same is = tt
  follows (Remove store) is = follows_edit (Remove store) is refl
  follows (Write attributes stamp skip append) is = follows_edit (Write attributes stamp skip append) is refl

  -- what a set comes to decides its reply and the state that it leaves
  pub step_decided : (d : Decision) → d ≡ decision state call → set_step state call ≡ decided state call d
  unfolding set_step
  step_decided d is = ap (decided state call) (sym is)
