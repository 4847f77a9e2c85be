-- The judgement of a time-based set is what the set rule says of its signature and its stamp.
use Rattle.std.specs.Option.{option_map, option_or}
use Rattle.std.specs.Prelude.{◌≡◌, ℕ, true, Option, Some, None, Result, Ok, Err}
use Rattle.var_types.specs.declared.auth_fault.AuthFault.{AuthFault}
use Rattle.var_types.specs.declared.auth_fault.AuthFault.TheVariants.{Verdict as BadVerdict, Stamp as OldStamp}
use Rattle.var_types.specs.declared.decision.Decision.{Decision}
use Rattle.var_types.specs.declared.decision.Decision.TheVariants.{Refuse}
use Rattle.var_types.specs.declared.set_reason.SetReason.TheVariants.{Verdict as ByVerdict, Stamp as ByStamp}
use Rattle.var_types.specs.declared.stamp.Stamp.{Stamp}
use Rattle.var_types.specs.declared.variable.Variable.{Variable}
use Rattle.var_types.specs.declared.verdict.Verdict.{Verdict}
use Rattle.var_types.specs.Attributes.{is_append, is_time_based}
use Rattle.var_types.specs.Reading.{Reading, made_of, stamp_of}
use Rattle.var_types.specs.SetCases.{stamp_case, verdict_case}
use Rattle.auth_rules.specs.Judgement.{judged}

-- the stamp of what is stored, where something is
abbrev pub stored_stamp : Option Variable → Option Stamp
stored_stamp stored = option_map (λ (variable : Variable). variable.stamp) stored

-- the refusal that a judgement is, in the words of the set rule
abbrev pub refusal_of : Result Stamp AuthFault → Option Decision
refusal_of (Ok stamp) = None
refusal_of (Err BadVerdict) = Some (Refuse ByVerdict)
refusal_of (Err (OldStamp stored new)) = Some (Refuse (ByStamp stored new))

-- a time-based set is refused by the cases of its signature and its stamp exactly where the judgement refuses it, and for the same reason
abbrev pub JudgesAsTheRule : Type 0
JudgesAsTheRule =
    (attributes : ℕ) (stored : Option Variable) (new : Stamp) (verdict : Verdict) → is_time_based attributes ≡ true
    → option_or (verdict_case attributes verdict) (stamp_case attributes stored new)
    ≡ refusal_of (judged (stored_stamp stored) new (is_append attributes) verdict)

-- a time-based set that isn't refused makes a variable with the stamp of the judgement
abbrev pub KeepsAsTheRule : Type 0
KeepsAsTheRule =
    (set : Reading) (stamp : Stamp) → is_time_based set.call.attributes ≡ true
    → judged (stored_stamp set.stored) (stamp_of set.front) (is_append set.call.attributes) set.call.verdict ≡ Ok stamp
    → (made_of set).stamp ≡ stamp
