use Rattle.std.proofs.Common.{drop}
use Rattle.play_steps.specs.Play.{AreTurns}
use Rattle.svc_core.specs.Events.{Powered}
use Rattle.svc_core.specs.Scene.{powered}
use Rattle.play_steps.proofs.turns.take_turns.Given as goal

abbrev pub invariant-loop-turn : goal.invariant-loop-turn
invariant-loop-turn l =
    (final : Powered) → AreTurns (drop l.turn-index l.turns) (powered l.world) final → AreTurns l.turns (powered l.initial.world) final
