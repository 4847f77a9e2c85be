use Rattle.std.proofs.Common.{◌≡◌, false, take}
use Rattle.svc_core.specs.Events.{Happen}
use Rattle.svc_core.specs.Scene.{powered}
use Rattle.svc_core.proofs.world.World.run.Given as goal

abbrev pub invariant-loop-event : goal.invariant-loop-event
invariant-loop-event g l = record {
  ran : Happen (powered l.initial.self) (take l.event-index l.events) (powered l.self);
  going : l.initial.self.over ≡ false → l.self.over ≡ false;
}
