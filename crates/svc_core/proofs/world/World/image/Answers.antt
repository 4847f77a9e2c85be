use Rattle.std.proofs.Common.{sym, ap, subst, ◌∙◌}
use Rattle.svc_core.proofs.Scenes.{scene_keeps}
use Rattle.svc_core.specs.Power.{Keeps}
use Rattle.svc_core.specs.Scene.{Scene}
use Rattle.svc_core.proofs.world.World.image.Goals as goal

pub returns-clause-keeps : goal.returns-clause-keeps
returns-clause-keeps g c = λ lost.
    let flash = c.as_slice.ensures.bytes ∙ ap (λ (s : Scene). s.world.writer.flash) c.self.view_is in
    subst (Keeps c.args.self.now.world) (sym flash)
    (scene_keeps c.self.inside.standing (g.W.Writes.opening c.self.inside.writer) (g.W.Writes.own c.self.inside.writer) c.self.inside.machine
    c.args.self.now c.self.view_is c.self.invariant lost)
