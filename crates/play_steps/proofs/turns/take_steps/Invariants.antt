use Rattle.std.proofs.Common.{◌-◌}
use Rattle.play_steps.specs.Play.{Takes}
use Rattle.svc_core.specs.Events.{Powered}
use Rattle.svc_core.specs.Scene.{powered}
use Rattle.play_steps.proofs.turns.take_steps.Given as goal

abbrev pub invariant-loop-step : goal.invariant-loop-step
invariant-loop-step l =
    (final : Powered) → Takes l.processor (powered l.world) (l.count - l.step) final → Takes l.processor (powered l.initial.world) l.count final
