-- The judgement of a time-based set, beside the cases of the set rule.
use Rattle.std.proofs.Common.{◌≡◌, ℕ, Bool, true, false, Option, Some, None, refl}
use Rattle.std.specs.Option.{option_or}
use Rattle.std.specs.Prelude.{not, ◌&&◌, if◌then◌else◌, Ok, Err}
use Rattle.var_types.specs.declared.auth_fault.AuthFault.TheVariants.{Stamp as OldStamp}
use Rattle.var_types.specs.declared.set_reason.SetReason.TheVariants.{Verdict as ByVerdict, Stamp as ByStamp}
use Rattle.var_types.specs.declared.stamp.Stamp.{Stamp}
use Rattle.var_types.specs.declared.variable.Variable.{Variable}
use Rattle.var_types.specs.declared.verdict.Verdict.{Verdict}
use Rattle.var_types.specs.declared.verdict.Verdict.TheVariants.{Bad, Good}
use Rattle.var_types.specs.Attributes.{is_append, is_time_based}
use Rattle.var_types.specs.Reading.{Reading, kept_stamp, made_of, stamp_of}
use Rattle.var_types.specs.SetCases.{is_bad, refuse_if, stamp_case, verdict_case}
use Rattle.var_types.specs.Stamps.{is_later}
use Rattle.auth_rules.specs.Judgement.{judged}
use Rattle.auth_rules.specs.Laws.{refusal_of, stored_stamp}

-- where nothing is stored, the signature alone refuses
judges_new : (timed append : Bool) (new : Stamp) (verdict : Verdict) → timed ≡ true
    → option_or (refuse_if (timed && is_bad verdict) ByVerdict) None ≡ refusal_of (judged None new append verdict)
judges_new true append new Bad is = refl
judges_new true append new Good is = refl
judges_new false append new verdict is = cc

-- a good signature: a stamp that isn't later refuses, unless the set appends
judges_stamp : (append : Bool) (stored new : Stamp)
    → refuse_if (not append && not (is_later new stored)) (ByStamp stored new) ≡ refusal_of (judged (Some stored) new append Good)
judges_stamp true stored new = refl
judges_stamp false stored new = by (is_later new stored)
  where
    by : (later : Bool) → refuse_if (not later) (ByStamp stored new) ≡ refusal_of (if later then Ok new else Err (OldStamp stored new))
    by true = refl
    by false = refl

-- where something is stored
judges_over : (timed append : Bool) (stored new : Stamp) (verdict : Verdict) → timed ≡ true
    → option_or (refuse_if (timed && is_bad verdict) ByVerdict)
    (refuse_if (timed && (not append && not (is_later new stored))) (ByStamp stored new))
    ≡ refusal_of (judged (Some stored) new append verdict)
judges_over true append stored new Bad is = refl
judges_over true append stored new Good is = judges_stamp append stored new
judges_over false append stored new verdict is = cc

-- the judgement refuses as the rule's two cases do
pub judges : (attributes : ℕ) (stored : Option Variable) (new : Stamp) (verdict : Verdict) → is_time_based attributes ≡ true
    → option_or (verdict_case attributes verdict) (stamp_case attributes stored new)
    ≡ refusal_of (judged (stored_stamp stored) new (is_append attributes) verdict)
unfolding verdict_case stamp_case
judges attributes None new verdict timed = judges_new (is_time_based attributes) (is_append attributes) new verdict timed
judges attributes (Some variable) new verdict timed =
    judges_over (is_time_based attributes) (is_append attributes) variable.stamp new verdict timed

-- the stamp that is kept, by what is stored and whether the set appends
keeps_by : (timed append : Bool) (stored : Option Variable) (new : Stamp) (verdict : Verdict) (stamp : Stamp) → timed ≡ true
    → judged (stored_stamp stored) new append verdict ≡ Ok stamp → kept_stamp (timed && append) stored new ≡ stamp
keeps_by timed append stored new Bad stamp is ok = cc
keeps_by timed append None new Good stamp is ok = cc
keeps_by true true (Some variable) new Good stamp is ok = cc
keeps_by true false (Some variable) new Good stamp is ok = by (is_later new variable.stamp) ok
  where
    by : (later : Bool) → (if later then Ok new else Err (OldStamp variable.stamp new)) ≡ Ok stamp → new ≡ stamp
    by true ok = cc
    by false ok = cc
keeps_by false append (Some variable) new Good stamp is ok = cc

-- the judgement keeps the rule's stamp
pub keeps : (set : Reading) (stamp : Stamp) → is_time_based set.call.attributes ≡ true
    → judged (stored_stamp set.stored) (stamp_of set.front) (is_append set.call.attributes) set.call.verdict ≡ Ok stamp
    → (made_of set).stamp ≡ stamp
unfolding made_of
keeps set stamp timed ok =
    keeps_by (is_time_based set.call.attributes) (is_append set.call.attributes) set.stored (stamp_of set.front) set.call.verdict stamp timed ok
