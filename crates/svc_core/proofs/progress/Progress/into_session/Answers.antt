use Rattle.std.proofs.Common.{ap, ◌∙◌}
use Rattle.svc_core.specs.Progress.{ProgressState}
use Rattle.svc_core.specs.World.{Processor}
use Rattle.std.specs.Prelude.{map}
use Rattle.svc_core.proofs.Seats.{answers_seated}
use Rattle.svc_core.proofs.progress.Progress.into_session.Goals as goal

pub returns-clause-answers : goal.returns-clause-answers
returns-clause-answers c =
    answers_seated c.self.inside.seats c.self.inside.session.processors c.self.invariant
    ∙ ap (λ (g : ProgressState). map (λ (a : Processor). a.answered) g.processors) c.self.view_is
