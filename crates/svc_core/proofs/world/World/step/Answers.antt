use Rattle.std.proofs.Common.{◌≡◌, true, sym, ap, refl, ⊎_elim, ◌∙◌}
use Rattle.svc_core.specs.declared.standing.Standing.TheVariants.{GivenUp, Spoiled}
use Rattle.svc_core.specs.Scene.{Scene, is_over}
use Rattle.svc_core.proofs.world.World.step.Goals as goal

pub returns-in-GivenUp : goal.returns-in-GivenUp
returns-in-GivenUp g c =
    let over : is_over c.self.inside.standing ≡ true =
    ⊎_elim (λ (e : c.self.inside.standing ≡ GivenUp). ap is_over e) (λ (e : c.self.inside.standing ≡ Spoiled). ap is_over e) c.in-GivenUp.is
    in
    (ap (λ (s : Scene). s.over) (sym c.self.view_is) ∙ over, (refl, (c.args.self.now.world.writer.own, refl)))
