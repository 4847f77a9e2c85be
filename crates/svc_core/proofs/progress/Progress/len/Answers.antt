use Rattle.std.proofs.Common.{ap, sym, length, ◌∙◌}
use Rattle.svc_core.specs.Progress.{ProgressState}
use Rattle.svc_core.proofs.Seats.{length-seated}
use Rattle.svc_core.proofs.progress.Progress.len.Goals as goal

pub returns : goal.returns
returns c =
    c.len.ensures ∙ sym (length-seated c.self.inside.seats c.self.inside.session.processors c.self.invariant)
    ∙ ap (λ (g : ProgressState). length g.processors) c.self.view_is
