-- Which case of the set rule answers, and that none does where a set makes a change.
use Rattle.std.proofs.Common.{◌≡◌, ℕ, zero, suc, Bool, true, false, List, [], ◌∷◌, take, replicate, Option, Some, None, refl, ap, ◌⊎◌, inl, inr, get_or}
use Rattle.std.specs.List.{AllByRecursion}
use Rattle.std.specs.Prelude.{slice_get, if◌then◌else◌, Result, Ok, Err}
use Rattle.var_types.specs.Name.{name_check}
use Rattle.var_types.specs.Reading.{Reading, deletes, made_of, reading_of, set_key}
use Rattle.var_types.specs.Attributes.{store_of}
use Rattle.var_types.specs.Room.{room_limit, room_needed}
use Rattle.var_types.specs.Set.{cases, change_of, decision, first_of}
use Rattle.var_types.specs.SetCases.{append_size_case, authentication_case, denied_case, descriptor_case, differ_case, hidden_case, history_case, missing_case, name_case, refuse_if, room_case, runtime_new_case, runtime_without_boot_case, same_case, size_case, stamp_case, unknown_case, unsupported_case, verdict_case, volatile_case}
use Rattle.var_types.specs.SetLaws.{Answers, NoneHolds}
use Rattle.var_types.specs.State.{State}
use Rattle.var_types.specs.declared.ask.Denied.{Denied}
use Rattle.var_types.specs.declared.call.SetCall.{SetCall}
use Rattle.var_types.specs.declared.decision.Decision.{Decision}
use Rattle.var_types.specs.declared.decision.Decision.TheVariants.{Refuse, Same, Remove, Write}
use Rattle.var_types.specs.declared.descriptor.Descriptor.{Descriptor}
use Rattle.var_types.specs.declared.descriptor.DescriptorFault.{DescriptorFault}
use Rattle.var_types.specs.declared.name.NameFault.{NameFault}
use Rattle.var_types.specs.declared.set_reason.SetReason.{SetReason}
use Rattle.var_types.specs.declared.stamp.Stamp.{Stamp}
use Rattle.var_types.specs.declared.variable.Variable.{Variable}

-- one more case in front that doesn't hold
more_front : (last : Decision) (cs : List (Option Decision)) → Answers cs (first_of last cs) ⊎ (NoneHolds cs × (first_of last cs ≡ last))
    → Answers (None ∷ cs) (first_of last cs) ⊎ (NoneHolds (None ∷ cs) × (first_of last cs ≡ last))
more_front last cs (inl a) =
    inl (record { place = suc a.place; none_before = ap (λ (xs : List (Option Decision)). None ∷ xs) a.none_before; holds = a.holds })
more_front last cs (inr none) = inr (ap (λ (xs : List (Option Decision)). None ∷ xs) none.0, none.1)

-- of some cases the first that holds answers, or none holds
pub first_answers : (last : Decision) (cs : List (Option Decision)) → Answers cs (first_of last cs) ⊎ (NoneHolds cs × (first_of last cs ≡ last))
first_answers last [] = inr (refl, refl)
first_answers last (Some d ∷ cs) = inl (record { place = 0; none_before = refl; holds = refl })
first_answers last (None ∷ cs) = more_front last cs (first_answers last cs)

-- what a case answers behind others that don't hold is the first
first_one_at : (last d : Decision) (cs : List (Option Decision)) (place : ℕ) → take place cs ≡ replicate place None
    → slice_get cs place ≡ Some (Some d) → first_of last cs ≡ d
first_one_at last d [] place none holds = cc
first_one_at last d (Some e ∷ cs) zero none holds = cc
first_one_at last d (Some e ∷ cs) (suc place) none holds = cc
first_one_at last d (None ∷ cs) zero none holds = cc
first_one_at last d (None ∷ cs) (suc place) none holds =
    let behind : take place cs ≡ replicate place None = cc in first_one_at last d cs place behind holds

-- what answers among some cases is the first that holds
pub first_one : (last d : Decision) (cs : List (Option Decision)) → Answers cs d → first_of last cs ≡ d
first_one last d cs a = first_one_at last d cs a.place a.none_before a.holds

-- whether a decision changes something
abbrev pub is_edit : Decision → Bool
is_edit (Refuse reason) = false
is_edit Same = false
is_edit (Remove store) = true
is_edit (Write attributes stamp skip append) = true

-- a case answers no change
abbrev pub IsCalm : Option Decision → Type 0
IsCalm None = Unit {0}
IsCalm (Some d) = is_edit d ≡ false

-- where no case answers a change, a change is what is said last, and none of the cases holds
edits_pass : (last : Decision) (cs : List (Option Decision)) → AllByRecursion IsCalm cs → is_edit (first_of last cs) ≡ true
    → NoneHolds cs × (first_of last cs ≡ last)
edits_pass last [] calm edit = (refl, refl)
edits_pass last (None ∷ cs) calm edit =
    let later = edits_pass last cs calm.1 edit in (ap (λ (xs : List (Option Decision)). None ∷ xs) later.0, later.1)
edits_pass last (Some d ∷ cs) calm edit = cc calm.0

-- a refusal is no change
calm_if : (holds : Bool) (reason : SetReason) → IsCalm (refuse_if holds reason)
calm_if true reason = refl
calm_if false reason = tt

calm_name : (found : Result (Unit {0}) NameFault) → IsCalm (name_case found)
unfolding name_case
calm_name (Ok u) = tt
calm_name (Err fault) = refl

calm_descriptor : (front : Result Descriptor DescriptorFault) → IsCalm (descriptor_case front)
unfolding descriptor_case
calm_descriptor (Ok descriptor) = tt
calm_descriptor (Err fault) = refl

calm_denied : (denial : Option Denied) → IsCalm (denied_case denial)
unfolding denied_case
calm_denied None = tt
calm_denied (Some denial) = refl

calm_differ : (stored : Option Variable) (attributes : ℕ) → IsCalm (differ_case stored attributes)
unfolding differ_case
calm_differ None attributes = tt
calm_differ (Some variable) attributes = calm_if _ _

calm_stamp : (attributes : ℕ) (stored : Option Variable) (new : Stamp) → IsCalm (stamp_case attributes stored new)
unfolding stamp_case
calm_stamp attributes None new = tt
calm_stamp attributes (Some variable) new = calm_if _ _

calm_append : (name : List ℕ) (attributes : ℕ) (deletion : Bool) (stored : Option Variable) (payload : List ℕ)
    → IsCalm (append_size_case name attributes deletion stored payload)
unfolding append_size_case
calm_append name attributes deletion None payload = tt
calm_append name attributes deletion (Some variable) payload = calm_if _ _

calm_same : (deletion : Bool) (stored : Option Variable) (made : Variable) → IsCalm (same_case deletion stored made)
unfolding same_case
calm_same deletion None made = tt
calm_same deletion (Some variable) made = by _
  where
    by : (holds : Bool) → IsCalm (if holds then Some Same else None)
    by true = refl
    by false = tt

-- no case of the rule answers a change
all_calm : (state : State) (set : Reading) → AllByRecursion IsCalm (cases state set)
unfolding unsupported_case unknown_case runtime_without_boot_case hidden_case volatile_case runtime_new_case size_case missing_case authentication_case verdict_case room_case history_case
all_calm state set = (
  calm_name _,
  (
    calm_if _ _,
    (
      calm_if _ _,
      (
        calm_if _ _,
        (
          calm_if _ _,
          (
            calm_if _ _,
            (
              calm_if _ _,
              (
                calm_descriptor _,
                (
                  calm_if _ _,
                  (
                    calm_denied _,
                    (
                      calm_if _ _,
                      (
                        calm_if _ _,
                        (
                          calm_differ _ _,
                          (
                            calm_if _ _,
                            (
                              calm_stamp _ _ _,
                              (
                                calm_append _ _ _ _ _,
                                (
                                  calm_same _ _ _,
                                  (
                                    calm_if _ _,
                                    (calm_if _ _, tt),
                                  ),
                                ),
                              ),
                            ),
                          ),
                        ),
                      ),
                    ),
                  ),
                ),
              ),
            ),
          ),
        ),
      ),
    ),
  ),
)

-- where a set comes to a change, that is its change, and no case holds
pub edit_is_change : (state : State) (call : SetCall) → is_edit (decision state call) ≡ true
    → NoneHolds (cases state (reading_of state call)) × (decision state call ≡ change_of (reading_of state call))
unfolding decision
edit_is_change state call edit =
    edits_pass (change_of (reading_of state call)) (cases state (reading_of state call)) (all_calm state (reading_of state call)) edit

-- those cases of the rule that a change rests on don't hold
pub record Passed (state : State) (set : Reading) : Type 0 where
  pub name : name_case (name_check set.call.name) ≡ None
  pub unknown : unknown_case set.call.attributes ≡ None
  pub hidden : hidden_case state.runtime set.stored ≡ None
  pub volatile : volatile_case state.runtime set.stored ≡ None
  pub runtime_new : runtime_new_case state.runtime set.stored set.call.attributes (deletes set) ≡ None
  pub size : size_case set.call.name set.payload ≡ None
  pub missing : missing_case set.stored (deletes set) set.payload ≡ None
  pub differ : differ_case set.stored set.call.attributes ≡ None
  pub append_size : append_size_case set.call.name set.call.attributes (deletes set) set.stored set.payload ≡ None
  pub room : room_case (deletes set) (room_needed state (set_key set.call) (made_of set)) (room_limit (store_of (made_of set).attributes)) ≡ None
  pub history : history_case state.made state.limit ≡ None

-- no case holds, and so none of these does
passed : (state : State) (set : Reading) → NoneHolds (cases state set) → Passed state set
passed state set none = record {
  name = ap (λ cs. get_or cs 0 None) none;
  unknown = ap (λ cs. get_or cs 2 None) none;
  hidden = ap (λ cs. get_or cs 4 None) none;
  volatile = ap (λ cs. get_or cs 5 None) none;
  runtime_new = ap (λ cs. get_or cs 6 None) none;
  size = ap (λ cs. get_or cs 8 None) none;
  missing = ap (λ cs. get_or cs 10 None) none;
  differ = ap (λ cs. get_or cs 12 None) none;
  append_size = ap (λ cs. get_or cs 15 None) none;
  room = ap (λ cs. get_or cs 17 None) none;
  history = ap (λ cs. get_or cs 18 None) none;
}

-- where a set comes to a change, none of these cases holds
pub passed_edit : (state : State) (call : SetCall) → is_edit (decision state call) ≡ true → Passed state (reading_of state call)
passed_edit state call edit = passed state (reading_of state call) (edit_is_change state call edit).0
