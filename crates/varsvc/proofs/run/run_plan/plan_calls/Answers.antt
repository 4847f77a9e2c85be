use Rattle.std.proofs.Common.{List, subst}
use Rattle.var_types.specs.declared.call.Call.{Call}
use Rattle.varsvc.specs.RunPlan.{PlansRun}
use Rattle.varsvc.specs.Told.{told_of}
use Rattle.varsvc.proofs.run.run_plan.plan_calls.Goals as goal

pub returns-in-Ok-clause-run : goal.returns-in-Ok-clause-run
returns-in-Ok-clause-run g c = λ input.
    let told = told_of g.F.Flash.holds g.F.Flash.size g.F.Flash.fault_count g.F.Flash.moment g.F.Flash.left_since input c.args.image c.run_on.result.image in
    subst (λ (script : List (List Call)). PlansRun told script c.run_on.result.plan) c.in-Ok.ensures.0 (c.run_on.ensures.run input)
