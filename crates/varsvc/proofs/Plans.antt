-- From the plan that is made to its status and its text.
use Rattle.std.proofs.Common.{◌≡◌, ◌≢◌, ℕ, Bool, false, List, [], sym, ◌∙◌, subst}
use Rattle.var_types.specs.Put.{PutsBy, PutsText, Text}
use Rattle.varsvc.specs.declared.output.plan.Plan.{Plan}
use Rattle.varsvc.specs.declared.output.plan.Plan.TheVariants.{Print, Stream, InputFault, DeviceFault, NoMemory}
use Rattle.varsvc.specs.Outcome.{IsText, Row}
use Rattle.varsvc.specs.Plan.{IsStreamed, PlansLine, PlansText, status_of, text_of}
use Rattle.varsvc.proofs.PlannedTexts.{text_memory}

-- the plan of a text in memory to which a line was put is the plan of that line
planned_line : (status : ℕ) (line : List ℕ) (held : Text) (plan : Plan) → PutsText (record { bytes = []; lacks = false }) held line
    → PlansText status held plan → PlansLine status line plan
unfolding PutsText
planned_line status line held (Print s t) put (is_status, whole, is_text) =
    (is_status, is_text ∙ subst (λ (b : Bool). PutsBy false b (record { bytes = []; lacks = false }) held line) whole put)
planned_line status line held (Stream streamed) put plans = absurd plans
planned_line status line held InputFault put plans = plans
planned_line status line held DeviceFault put plans = plans
planned_line status line held NoMemory put plans = tt

-- the same, by what a text in memory is at first
pub planned : (status : ℕ) (line : List ℕ) (start held : Text) (plan : Plan) → start ≡ record { bytes = []; lacks = false } → PutsText start held line
    → PlansText status held plan → PlansLine status line plan
planned status line start held plan is put plans = planned_line status line held plan (subst (λ (s : Text). PutsText s held line) is put) plans

-- the plan of a line has the text that goes with its status
pub line_text : (r : Row) (status : ℕ) (line : List ℕ) (plan : Plan) → IsText r status line → PlansLine status line plan → r.untouched
    → IsText r (status_of plan) (text_of plan)
line_text r status line (Print s t) is (is_status, is_text) untouched =
    subst (λ (s : ℕ). IsText r s t) (sym is_status) (subst (λ (t : List ℕ). IsText r status t) (sym is_text) is)
line_text r status line (Stream streamed) is plans untouched = absurd plans
line_text r status line InputFault is plans untouched = absurd plans
line_text r status line DeviceFault is plans untouched = absurd plans
line_text r status line NoMemory is plans untouched = text_memory r untouched

-- the plan of a line has another status than one that neither it nor a call out of memory has
pub other_status : (fault status : ℕ) (line : List ℕ) (plan : Plan) → status ≢ fault → 8 ≢ fault → PlansLine status line plan → status_of plan ≢ fault
other_status fault status line (Print s t) other memory (is_status, is_text) = λ e. other (sym is_status ∙ e)
other_status fault status line (Stream streamed) other memory plans = absurd plans
other_status fault status line InputFault other memory plans = absurd plans
other_status fault status line DeviceFault other memory plans = absurd plans
other_status fault status line NoMemory other memory plans = memory

-- the plan of a line is written before it is printed
pub unstreamed : (status : ℕ) (line : List ℕ) (plan : Plan) → PlansLine status line plan → ¬ IsStreamed plan
unstreamed status line (Print s t) plans (streamed, is) = cc
unstreamed status line (Stream s) plans is = absurd plans
unstreamed status line InputFault plans is = absurd plans
unstreamed status line DeviceFault plans is = absurd plans
unstreamed status line NoMemory plans (streamed, is) = cc
