use Rattle.std.proofs.Common.{◌≤◌, List, length, All, None, Ok, sym, subst}
use Rattle.script_text.specs.Script.{most_calls}
use Rattle.var_types.specs.declared.call.Call.{Call}
use Rattle.varsvc.proofs.Runs.{of_left, right_fits, run_fails, run_status, run_text, run_unprinted, script_is_short}
use Rattle.varsvc.specs.RunPlan.{PlansRun}
use Rattle.varsvc.specs.Told.{told_of}
use Rattle.varsvc.proofs.run.run_plan.plan_script.Goals as goal

pub plan_calls-requires : goal.plan_calls-requires
plan_calls-requires g c =
    let same = c.into_processors.ensures in
    record {
      few = subst (λ (script : List (List Call)). length script ≤ 8) (sym same) c.in-Ok.ensures.few;
      short = subst (All (λ (calls : List Call). length calls ≤ most_calls)) (sym same) c.in-Ok.ensures.short;
    }

pub returns-in-Ok-clause-text : goal.returns-in-Ok-clause-text
returns-in-Ok-clause-text g c = λ left same values.
    let told = told_of g.F.Flash.holds g.F.Flash.size g.F.Flash.fault_count g.F.Flash.moment g.F.Flash.left_since left c.args.image c.plan_calls.result.image in
    run_text right_fits told c.in-Ok.script (of_left left c.args.input.now (Ok c.in-Ok.script) same c.in-Ok.ensures.script) c.plan_calls.result.plan
    (subst (λ (script : List (List Call)). PlansRun told script c.plan_calls.result.plan) c.into_processors.ensures (c.plan_calls.ensures.run left)) values

pub returns-in-Ok-clause-unprinted : goal.returns-in-Ok-clause-unprinted
returns-in-Ok-clause-unprinted g c = λ left same streamed.
    let told = told_of g.F.Flash.holds g.F.Flash.size g.F.Flash.fault_count g.F.Flash.moment g.F.Flash.left_since left c.args.image c.plan_calls.result.image in
    run_unprinted right_fits told c.in-Ok.script (of_left left c.args.input.now (Ok c.in-Ok.script) same c.in-Ok.ensures.script) c.plan_calls.result.plan
    (subst (λ (script : List (List Call)). PlansRun told script c.plan_calls.result.plan) c.into_processors.ensures (c.plan_calls.ensures.run left)) streamed

pub returns-in-Ok-clause-flash : goal.returns-in-Ok-clause-flash
returns-in-Ok-clause-flash g c = λ left. run_fails _ _ c.plan_calls.result.plan (c.plan_calls.ensures.run left)

pub returns-in-Ok-clause-was_read : goal.returns-in-Ok-clause-was_read
returns-in-Ok-clause-was_read g c = run_status _ _ c.plan_calls.result.plan (c.plan_calls.ensures.run None)

pub returns-in-Ok-clause-short : goal.returns-in-Ok-clause-short
returns-in-Ok-clause-short g c = λ done. script_is_short c.args.input.now c.in-Ok.script c.in-Ok.ensures.script
