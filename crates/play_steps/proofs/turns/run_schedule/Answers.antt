use Rattle.std.proofs.Common.{Result, Ok, Err, Some, None, refl, ap, ◌∙◌, sym}
use Rattle.std.specs.Prelude.{OnOk}
use Rattle.script_text.specs.Schedule.{ScheduleParts}
use Rattle.svc_core.specs.Scene.{powered}
use Rattle.play_steps.proofs.Schedules.{scheduled}
use Rattle.play_steps.proofs.turns.run_schedule.Goals as goal

-- what follows where there is a result
on_ok : {A E : Type 0} (r : Result A E) (P Q : Type 0) → (P → Q) → OnOk r P → OnOk r Q
on_ok (Ok x) P Q f h = f h
on_ok (Err e) P Q f h = h

pub returns-in-Some-clause-ran : goal.returns-in-Some-clause-ran
returns-in-Some-clause-ran c =
    let turns = c.deref.ensures.value ∙ ap (λ (s : ScheduleParts). s.turns) c.schedule.view_is in
    let power = sym c.in-Some.is ∙ ap (λ (s : ScheduleParts). s.power) c.schedule.view_is in
    on_ok c.lose_power.result _ _
    (scheduled c.args.schedule.now (powered c.args.world.now) (powered c.take_turns.new.world) (powered c.lose_power.new.world) c.deref.result.now
    (Some c.in-Some.loss) turns power c.in_ok-take_turns.ensures) c.lose_power.ensures.power

pub returns-in-None-clause-ran : goal.returns-in-None-clause-ran
returns-in-None-clause-ran c =
    let turns = c.deref.ensures.value ∙ ap (λ (s : ScheduleParts). s.turns) c.schedule.view_is in
    let power = sym c.in-None.is ∙ ap (λ (s : ScheduleParts). s.power) c.schedule.view_is in
    scheduled c.args.schedule.now (powered c.args.world.now) (powered c.take_turns.new.world) (powered c.take_turns.new.world) c.deref.result.now None turns
    power c.in_ok-take_turns.ensures refl
