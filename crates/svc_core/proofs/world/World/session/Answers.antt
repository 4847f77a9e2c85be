use Rattle.std.proofs.Common.{List, map, sym, ap, subst, ◌∙◌}
use Rattle.var_trace.specs.declared.change.Change.{Change}
use Rattle.var_trace.specs.LegalSession.{IsLegalSoFar}
use Rattle.var_trace.specs.Session.{answers_of}
use Rattle.var_trace.specs.StoresAfter.{history_in}
use Rattle.var_trace.specs.Recorded.{Recorded}
use Rattle.svc_core.proofs.Scenes.{scene_legal}
use Rattle.svc_core.specs.Scene.{Scene}
use Rattle.svc_core.proofs.world.World.session.Goals as goal

pub returns-clause-legal : goal.returns-clause-legal
returns-clause-legal g c =
    let w = c.args.self.now.world in
    let good = scene_legal c.self.inside.standing (g.W.Writes.opening c.self.inside.writer) (g.W.Writes.own c.self.inside.writer) c.self.inside.machine
    c.args.self.now c.self.view_is c.self.invariant in
    let log = ap (λ (t : Recorded). t.log) c.session.ensures.log ∙ ap (λ (s : Scene). s.world.writer.log) c.self.view_is in
    let answers = c.session.ensures.answers ∙ ap (λ (s : Scene). map (λ a. a.answered) s.world.processors) c.self.view_is in
    subst (λ (x : List Change). IsLegalSoFar w.opening.start (history_in x) (answers_of c.session.result.now)) (sym log)
    (subst (IsLegalSoFar w.opening.start (history_in w.writer.log)) (sym answers) good)
