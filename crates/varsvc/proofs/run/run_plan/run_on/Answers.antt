use Rattle.std.proofs.Common.{◌≡◌, ℕ, List, length, max, sum_by, IfSome, ap, subst, ◌∙◌}
use Rattle.mm_writer.specs.Side.{Side, state_of}
use Rattle.nv_store.specs.declared.load_fault.LoadWhy.TheVariants.{Device}
use Rattle.var_types.specs.declared.call.Call.{Call}
use Rattle.var_types.specs.Kept.{kept}
use Rattle.var_types.specs.State.{start}
use Rattle.varsvc.proofs.Refusals.{opening_none, same_variables, unopened_plan, untouched}
use Rattle.varsvc.proofs.run.run_plan.run_on.Goals as goal

pub returns-in-Ok-clause-run : goal.returns-in-Ok-clause-run
returns-in-Ok-clause-run g c = λ input.
    let engine = c.in-Ok.engine in
    c.run_opened.ensures.run input c.args.image
    (record {
      state =
          subst (λ (n : ℕ). IfSome (g.F.Flash.holds c.args.image) (λ image. state_of engine.1.1 ≡ start (kept image) n))
          (c.max-limit.ensures ∙ ap (λ n. max n 1) (c.count_calls.ensures ∙ ap (λ (queues : List (List Call)). sum_by length queues) c.as_slice.ensures.value)) c.in-Ok.ensures.opened.1;
      accepted = c.in-Ok.ensures.accepted;
      empty = ap (λ (s : Side). s.log) c.in-Ok.ensures.side;
      sure = c.in-Ok.ensures.opened.0;
      at_any_moment = c.in-Ok.ensures.at_any_moment;
      calm = c.in-Ok.ensures.done;
    })

pub returns-in-Err-clause-run : goal.returns-in-Err-clause-run
returns-in-Err-clause-run g c = λ input.
    let fault = c.in-Err.fault in
    let only = g.met.F.Flash.only_now c.args.image in
    unopened_plan _ c.args.queues.items fault.why c.plan_unopened.result c.plan_unopened.ensures c.in-Err.ensures.refused c.in-Err.ensures.size
    c.in-Err.ensures.not_device
    (λ other. untouched g.F.Flash.holds g.F.Flash.size g.F.Flash.fault_count g.F.Flash.moment g.F.Flash.left_since input c.args.image fault.flash only (c.in-Err.ensures.untouched other) (c.in-Err.ensures.cause.done (λ e. let same : fault.why ≡ Device = cc in other same)))
    (same_variables g.F.Flash.holds g.F.Flash.size g.F.Flash.fault_count g.F.Flash.moment g.F.Flash.left_since input c.args.image fault.flash only c.in-Err.ensures.at_any_moment_refused opening_none) c.in-Err.ensures.cause
