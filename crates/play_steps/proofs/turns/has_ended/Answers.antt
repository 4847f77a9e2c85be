use Rattle.play_steps.proofs.Schedules.{ends_moved, ends_still, goes_moved}
use Rattle.play_steps.proofs.turns.has_ended.Goals as goal

pub returns-in-Moved-clause-ends : goal.returns-in-Moved-clause-ends
returns-in-Moved-clause-ends c =
    ends_moved c.args.processor c.args.world.now c.step.new.self c.in-Moved.ensures c.count_of-before.result c.count_of.result c.count_of-before.ensures
    c.count_of.ensures

pub returns-in-Moved-clause-goes_on : goal.returns-in-Moved-clause-goes_on
returns-in-Moved-clause-goes_on c =
    goes_moved c.args.processor c.args.world.now c.step.new.self c.in-Moved.ensures c.count_of-before.result c.count_of.result c.count_of-before.ensures
    c.count_of.ensures

pub returns-in-Still-clause-ends : goal.returns-in-Still-clause-ends
returns-in-Still-clause-ends c = λ yes. ends_still c.args.processor c.args.world.now c.step.new.self c.in-Still.ensures
