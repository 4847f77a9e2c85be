use Rattle.std.proofs.Common.{List, ◌≤◌, take, length, refl, sym, subst, slice_index_or, arith}
use Rattle.std.proofs.lemmas.List.{take_all, take_more}
use Rattle.svc_core.proofs.Runs.{part_run, ran_step, step_going, whole_run}
use Rattle.svc_core.specs.declared.event.Event.{Event}
use Rattle.svc_core.specs.declared.event.Event.TheVariants as events
use Rattle.svc_core.specs.Events.{Happen}
use Rattle.svc_core.specs.Scene.{IsStepped, powered}
use Rattle.svc_core.specs.declared.event.Stepped.{Stepped}
use Rattle.svc_core.proofs.world.World.run.Goals as goal

pub loop-event-init : goal.loop-event-init
loop-event-init g c = record { ran = refl; going = λ e. e }

pub loop-event-preserved : goal.loop-event-preserved
loop-event-preserved g c =
    let all = c.args.events.now in
    let i = c.loop-event.event-index in
    let one = take_more all i (events.Step 0) c.loop-event-test.true in
    record {
      ran =
          subst (λ (es : List Event). Happen (powered c.args.self.now) es (powered c.step.new.self)) (sym one)
          (ran_step c.args.self.now c.loop-event.self c.step.new.self (take i all) _ c.loop-event.invariant.ran c.step.result c.in-Moved.is c.step.ensures);
      going = λ e. step_going c.args.self.now c.loop-event.self c.step.new.self (take i all) _ c.loop-event.invariant.ran c.step.result c.in-Moved.is c.step.ensures;
    }

pub returns-in-OutOfMemory-clause-ran : goal.returns-in-OutOfMemory-clause-ran
returns-in-OutOfMemory-clause-ran g c =
    let event : Event = slice_index_or c.args.events.now c.loop-event.event-index (events.Step 0) in
    part_run c.args.self.now c.loop-event.self c.step.new.self c.args.events.now c.loop-event.event-index event
    (let h : c.loop-event.event-index ≤ length c.args.events.now = omega (arith, c.loop-event-test.true) in h) c.loop-event.invariant.ran
    (subst (λ (r : Stepped). IsStepped c.loop-event.self event r c.step.new.self) c.in-OutOfMemory.is c.step.ensures)

pub returns-clause-ran : goal.returns-clause-ran
returns-clause-ran g c =
    let all = c.args.events.now in
    whole_run c.args.self.now c.loop-event.self all
    (subst (λ (es : List Event). Happen (powered c.args.self.now) es (powered c.loop-event.self))
    (take_all c.loop-event.event-index all c.loop-event-test.false) c.loop-event.invariant.ran)

pub returns-clause-all : goal.returns-clause-all
returns-clause-all g c = c.loop-event.invariant.going
