use Rattle.std.proofs.Common.{◌≡◌, ◌+◌, ◌-◌, suc, subst, refl, arith, sym}
use Rattle.play_steps.specs.Play.{Takes}
use Rattle.svc_core.specs.Scene.{powered}
use Rattle.play_steps.proofs.Schedules.{takes_more, takes_still}
use Rattle.play_steps.proofs.turns.take_steps.Goals as goal

pub loop-step-init : goal.loop-step-init
loop-step-init c = λ final taken.
    let all : c.args.count - 0 ≡ c.args.count = omega arith in
    subst (λ n. Takes c.args.processor (powered c.args.world.now) n final) all taken

pub loop-step-preserved : goal.loop-step-preserved
loop-step-preserved c = λ final taken.
    let one : c.args.count - c.loop-step.step ≡ suc (c.args.count - (c.loop-step.step + 1)) = omega (arith, c.loop-step-test.true) in
    c.loop-step.invariant final
    (takes_more c.args.processor (c.args.count - c.loop-step.step) c.loop-step.world c.step.new.self final (c.args.count - (c.loop-step.step + 1)) one
    c.in-Moved.ensures taken)

pub returns-in-Still : goal.returns-in-Still
returns-in-Still c =
    let one : c.args.count - c.loop-step.step ≡ suc (c.args.count - (c.loop-step.step + 1)) = omega (arith, c.loop-step-test.true) in
    c.loop-step.invariant (powered c.step.new.self)
    (takes_still c.args.processor (c.args.count - c.loop-step.step) (c.args.count - (c.loop-step.step + 1)) c.loop-step.world c.step.new.self one
    c.in-Still.ensures)

pub returns : goal.returns
returns c =
    let none : c.args.count - c.loop-step.step ≡ 0 = omega (arith, c.loop-step-test.false) in
    c.loop-step.invariant (powered c.loop-step.world)
    (subst (λ n. Takes c.args.processor (powered c.loop-step.world) n (powered c.loop-step.world)) (sym none) refl)
