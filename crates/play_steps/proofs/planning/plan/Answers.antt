use Rattle.std.proofs.Common.{List, None, Some, sym, subst, ◌∙◌}
use Rattle.play_steps.proofs.Plans.{own_given, same_plan, whole_plan}
use Rattle.play_steps.specs.EngineWriter.{EngineState, opening_of, own_of}
use Rattle.svc_core.specs.declared.flash_step.FlashStep.{FlashStep}
use Rattle.svc_core.specs.Plan.{IsPlan, Plan}
use Rattle.svc_core.specs.Writer.{Writer}
use Rattle.play_steps.proofs.planning.plan.Goals as goal

pub returns-then-not-is_change-clause-plan : goal.returns-then-not-is_change-clause-plan
returns-then-not-is_change-clause-plan c =
    let old : EngineState = c.args.engine.now in
    let new : EngineState = c.answer.new.engine in
    let reply = c.in_ok-reply.reply in
    subst
    (λ (s : List FlashStep). IsPlan (opening_of old) (own_of old) c.args.processor c.args.index c.args.call.now (let p : Plan = record { reply = reply; steps = s; change = None } in p) (own_of new))
    (sym c.new.ensures.items)
    (same_plan old new c.args.processor c.args.index c.args.call.now reply c.requires c.in_ok-reply.ensures.done
    (sym c.is_change.ensures ∙ c.if-not-is_change.true))

pub returns-clause-plan : goal.returns-clause-plan
returns-clause-plan c =
    let old : EngineState = c.args.engine.now in
    let new : EngineState = c.answer.new.engine in
    let reply = c.in_ok-reply.reply in
    let steps = c.give_list-steps.result.items in
    let gives = c.give_list-steps.ensures.gives in
    subst
    (λ (w : Writer). IsPlan (opening_of old) (own_of old) c.args.processor c.args.index c.args.call.now (let p : Plan = record { reply = reply; steps = steps; change = Some c.in_ok-change.change } in p) w)
    (sym (own_given new c.give_list-steps.new.self steps gives c.give_list-steps.ensures.rest))
    (whole_plan old new c.args.processor c.args.index c.args.call.now reply c.requires c.in_ok-reply.ensures.done c.history-history.ensures.whole
    c.last_change.ensures.whole (sym c.is_change.ensures ∙ c.if-not-is_change.false) c.in_ok-change.change steps c.in_ok-change.ensures.last gives.list gives.fit)
