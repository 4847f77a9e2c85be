use Rattle.std.proofs.Common.{refl, sym, ◌∙◌}
use Rattle.mm_writer.proofs.Decided.{refused_right, same_right}
use Rattle.mm_writer.proofs.InDoubt.{answers_unchanged}
use Rattle.mm_writer.specs.Side.{state_of}
use Rattle.mm_writer.proofs.engine.Engine.set.Goals as goal

pub returns-in-Refuse : goal.returns-in-Refuse
returns-in-Refuse g c =
    let engine = c.args.self.now in
    let call = c.args.call.now in
    answers_unchanged g.F.Flash.moment g.F.Flash.left_since g.F.Flash.holds g.F.Flash.fault_count engine c.args.processor c.args.index call _ refl (λ e. cc)
    (refused_right c.decisions_decide.ensures (state_of engine.1.1) call c.in-Refuse.reason (sym c.in-Refuse.is ∙ c.decision-decision.ensures.decision))
    c.decision-decision.ensures.keeps

pub returns-in-Same : goal.returns-in-Same
returns-in-Same g c =
    let engine = c.args.self.now in
    let call = c.args.call.now in
    answers_unchanged g.F.Flash.moment g.F.Flash.left_since g.F.Flash.holds g.F.Flash.fault_count engine c.args.processor c.args.index call _ refl (λ e. cc)
    (same_right c.decisions_decide.ensures (state_of engine.1.1) call (sym c.in-Same.is ∙ c.decision-decision.ensures.decision))
    c.decision-decision.ensures.keeps
