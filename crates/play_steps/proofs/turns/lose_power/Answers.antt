use Rattle.std.proofs.Common.{subst}
use Rattle.flash_dev.specs.declared.fault_plan.Torn.{Torn}
use Rattle.svc_core.specs.declared.event.Event.TheVariants.{Power}
use Rattle.svc_core.specs.Events.{Happens}
use Rattle.svc_core.specs.Scene.{powered}
use Rattle.play_steps.proofs.Schedules.{power_happens}
use Rattle.play_steps.proofs.turns.lose_power.Goals as goal

pub returns-in-Moved : goal.returns-in-Moved
returns-in-Moved c =
    let both = power_happens c.args.world.now c.step.new.self c.torn_of.result c.step.result c.in-Moved.is c.step.ensures in
    record {
      power = subst (λ (torn : Torn). Happens (powered c.args.world.now) (Power torn) (powered c.step.new.self)) c.torn_of.ensures both.0;
      lost = both.1;
    }
