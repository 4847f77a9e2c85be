use Rattle.svc_core.specs.Scene.{powered}
use Rattle.play_steps.proofs.Schedules.{ends_later, level_stays, rank_falls, second_level}
use Rattle.play_steps.proofs.turns.end_call.Goals as goal

pub returns-then-branch-2 : goal.returns-then-branch-2
returns-then-branch-2 c =
    ends_later c.args.processor (powered c.args.world.now) (powered c.has_ended.new.world) (powered c.has_ended-2.new.world)
    (c.in_ok-has_ended.ensures.goes_on c.if-branch.false) (c.in_ok-has_ended-2.ensures.ends c.if-branch-2.true)

pub steps-init : goal.steps-init
steps-init c =
    let p = c.args.processor in
    let first = c.in_ok-has_ended.ensures.goes_on c.if-branch.false in
    let second = c.in_ok-has_ended-2.ensures.goes_on c.if-branch-2.false in
    record {
      begun = second_level p (powered c.args.world.now) (powered c.has_ended.new.world) (powered c.has_ended-2.new.world) first second;
      ends = λ final ends.
          ends_later p (powered c.args.world.now) (powered c.has_ended.new.world) final first
          (ends_later p (powered c.has_ended.new.world) (powered c.has_ended-2.new.world) final second ends);
    }

pub steps-preserved : goal.steps-preserved
steps-preserved c =
    let p = c.args.processor in
    let before = powered c.steps.world in
    let behind = powered c.has_ended-in-steps.new.world in
    let goes = c.in_ok-has_ended-3.ensures.goes_on c.if-not-branch.true in
    record {
      begun = level_stays p before behind c.steps.invariant.begun goes;
      ends = λ final ends. c.steps.invariant.ends final (ends_later p before behind final goes ends);
    }

pub steps-smaller : goal.steps-smaller
steps-smaller c =
    rank_falls c.args.processor (powered c.steps.world) (powered c.has_ended-in-steps.new.world) c.steps.invariant.begun
    (c.in_ok-has_ended-3.ensures.goes_on c.if-not-branch.true)
