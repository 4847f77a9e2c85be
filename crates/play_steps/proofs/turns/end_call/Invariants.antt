use Rattle.std.proofs.Common.{◌≡◌}
use Rattle.play_steps.proofs.Schedules.{level_of, rank_of}
use Rattle.play_steps.specs.Play.{Ends}
use Rattle.svc_core.specs.Events.{Powered}
use Rattle.svc_core.specs.Scene.{powered}
use Rattle.play_steps.proofs.turns.end_call.Given as goal

abbrev pub invariant-steps : goal.invariant-steps
invariant-steps l = record {
  begun : level_of (powered l.world) l.processor ≡ 0;
  ends : (final : Powered) → Ends l.processor (powered l.world) final → Ends l.processor (powered l.fn.world) final;
}

abbrev pub decreases-steps : goal.decreases-steps
decreases-steps l = rank_of (powered l.world) l.processor
