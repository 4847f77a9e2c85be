use Rattle.std.proofs.Common.{ℕ, List, length, sym, ap, ap₂, ◌∙◌, arith}
use Rattle.image_make.proofs.BlankImages.{kept-blank_image}
use Rattle.image_make.proofs.Scripts.{length-generated_calls}
use Rattle.mm_writer.specs.Side.{Side}
use Rattle.var_types.specs.declared.call.Call.{Call}
use Rattle.var_types.specs.Kept.{kept}
use Rattle.var_types.specs.State.{start}
use Rattle.varsvc.proofs.Closing.{state_first}
use Rattle.varsvc.proofs.run.work_plan.worked.Goals as goal

pub new-requires : goal.new-requires
new-requires c =
    let all = ap (λ (cs : List Call). length cs) c.in_ok-generated_calls.ensures ∙ length-generated_calls c.args.number in
    omega (arith, all)

pub worked_on-requires-clause-first : goal.worked_on-requires-clause-first
worked_on-requires-clause-first c =
    let side : Side = c.in-Ok.engine.1.1 in
    sym (state_first side (ap (λ (s : Side). s.log) c.in-Ok.ensures.side))
    ∙ c.in-Ok.ensures.opened.1
    ∙ ap₂ (λ (image : List ℕ) (n : ℕ). start (kept image) n) c.in_ok-flash.ensures c.from.ensures
    ∙ ap (λ variables. start variables 4000) kept-blank_image
