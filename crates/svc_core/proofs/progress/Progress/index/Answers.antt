use Rattle.std.proofs.Common.{ap, sym, length, ◌∙◌, arith}
use Rattle.svc_core.specs.Progress.{ProgressState, answered_at}
use Rattle.svc_core.proofs.Seats.{few_answered, index_seated, within_answers}
use Rattle.svc_core.proofs.progress.Progress.index.Goals as goal

pub answered-requires : goal.answered-requires
answered-requires c =
    within_answers c.self.inside.seats c.self.inside.session.processors c.args.self.now.processors c.args.p c.self.invariant
    (ap (λ (g : ProgressState). g.processors) c.self.view_is) c.requires

pub overflow_cast-result : goal.overflow_cast-result
overflow_cast-result c =
    let few = few_answered c.self.inside.seats c.self.inside.session.processors c.args.p c.self.invariant in
    let same = ap (λ xs. length xs) c.answered.ensures in
    omega (arith, few, same)

pub returns : goal.returns
returns c =
    let xs = c.self.inside.seats in
    let ys = c.self.inside.session.processors in
    ap (λ xs. length xs) c.answered.ensures ∙ sym (index_seated xs ys c.args.p c.self.invariant)
    ∙ ap (λ (g : ProgressState). answered_at g.processors c.args.p) c.self.view_is
