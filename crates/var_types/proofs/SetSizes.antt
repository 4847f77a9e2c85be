-- The sizes of records that the cases of the set rule leave.
use Rattle.std.proofs.Common.{◌≡◌, ◌≤◌, Bool, true, false, List, ◌++◌, Option, Some, None, refl, subst}
use Rattle.std.proofs.lemmas.Bool.{ltb-false}
use Rattle.std.specs.Option.{option_or}
use Rattle.std.specs.Prelude.{ℕ, nat_lt, ◌&&◌}
use Rattle.var_types.specs.Attributes.{is_append}
use Rattle.var_types.specs.Reading.{Reading, deletes, kept_bytes, made_of, stamp_of}
use Rattle.var_types.specs.Room.{record_size}
use Rattle.var_types.specs.SetCases.{append_size_case, authentication_case, descriptor_case, differ_case, hidden_case, missing_case, refuse_if, runtime_new_case, size_case, stamp_case, verdict_case, volatile_case}
use Rattle.var_types.specs.declared.decision.Decision.{Decision}
use Rattle.var_types.specs.declared.set_reason.SetReason.{SetReason}
use Rattle.var_types.specs.declared.variable.Variable.{Variable}

-- a refusal that isn't made: its test doesn't hold
pub no_refusal : (holds : Bool) (reason : SetReason) → refuse_if holds reason ≡ None → holds ≡ false
no_refusal true reason passed = cc
no_refusal false reason passed = refl

-- where two tests don't hold together and the first does, the second doesn't
pub second_fails : (a b : Bool) → a ≡ true → (a && b) ≡ false → b ≡ false
second_fails true b holds fails = fails
second_fails false b holds fails = cc

-- the last of two cases of which none holds
pub last_passed : (first last : Option Decision) → option_or first last ≡ None → last ≡ None
last_passed None last passed = passed
last_passed (Some decision) last passed = cc

-- the record with the payload is as large as a record may be
pub payload_fits : (name payload : List ℕ) → size_case name payload ≡ None → record_size name payload ≤ 33792
unfolding size_case
payload_fits name payload passed = ltb-false 33792 (record_size name payload) (no_refusal _ _ passed)

-- the same, where none of the cases of phase, descriptor and size holds
pub size_fits : (runtime : Bool) (set : Reading)
    → option_or
    (option_or
    (option_or
    (option_or (hidden_case runtime set.stored) (volatile_case runtime set.stored))
    (runtime_new_case runtime set.stored set.call.attributes (deletes set)))
    (descriptor_case set.front))
    (size_case set.call.name set.payload)
    ≡ None
    → record_size set.call.name set.payload ≤ 33792
size_fits runtime set passed = payload_fits set.call.name set.payload (last_passed _ _ passed)

-- the record with what stays before the payload, by what is stored and whether the set appends
kept_fits : (name payload : List ℕ) (stored : Option Variable) (attributes : ℕ) (append : Bool) → is_append attributes ≡ append
    → record_size name payload ≤ 33792 → append_size_case name attributes false stored payload ≡ None
    → record_size name (kept_bytes append stored ++ payload) ≤ 33792
unfolding append_size_case
kept_fits name payload None attributes append is fits passed = fits
kept_fits name payload (Some variable) attributes false is fits passed = fits
kept_fits name payload (Some variable) attributes true is fits passed =
    let large = nat_lt 33792 (record_size name (variable.bytes ++ payload)) in
    ltb-false 33792 (record_size name (variable.bytes ++ payload)) (second_fails (is_append attributes) large is (no_refusal _ _ passed))

-- the record of the variable that a set makes is as large as a record may be
pub made_size : (set : Reading) → deletes set ≡ false → record_size set.call.name set.payload ≤ 33792
    → append_size_case set.call.name set.call.attributes (deletes set) set.stored set.payload ≡ None
    → record_size set.call.name (made_of set).bytes ≤ 33792
unfolding made_of
made_size set kept fits passed =
    let P : Bool → Type 0 = λ b. append_size_case set.call.name set.call.attributes b set.stored set.payload ≡ None in
    kept_fits set.call.name set.payload set.stored set.call.attributes (is_append set.call.attributes) refl fits (subst P kept passed)

-- the same, where none of the cases that compare a set with what is stored holds
pub made_fits : (set : Reading) → record_size set.call.name set.payload ≤ 33792
    → option_or
    (option_or
    (option_or
    (option_or
    (option_or (missing_case set.stored (deletes set) set.payload) (authentication_case set.stored set.call.attributes))
    (differ_case set.stored set.call.attributes))
    (verdict_case set.call.attributes set.call.verdict))
    (stamp_case set.call.attributes set.stored (stamp_of set.front)))
    (append_size_case set.call.name set.call.attributes (deletes set) set.stored set.payload)
    ≡ None
    → deletes set ≡ false → record_size set.call.name (made_of set).bytes ≤ 33792
made_fits set fits passed kept = made_size set kept fits (last_passed _ _ passed)
