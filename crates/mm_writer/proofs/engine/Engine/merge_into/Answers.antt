use Rattle.std.proofs.Common.{sym, subst}
use Rattle.mm_writer.proofs.Cached.{engine_merged, side_merged}
use Rattle.mm_writer.specs.Engine.{IsEngine, side_by}
use Rattle.mm_writer.specs.Side.{Side}
use Rattle.mm_writer.proofs.engine.Engine.merge_into.Goals as goal

pub invariant_of-self : goal.invariant_of-self
invariant_of-self g c =
    let e = c.self.inside in
    let side : Side = side_by e.opened.value.1.0 e.store.1.0 e.volatile e.books in
    subst (λ (s : Side). IsEngine s e.totals e.policies e.failed e.store.1.1)
    (sym (side_merged e.opened.value.1.0 e.store.1.0 e.volatile e.books c.clear.new.self c.len-made.result c.clear.ensures c.len-made.ensures.len))
    (engine_merged c.changes_follow_the_history.ensures c.agreement_grows_with_the_ranges.ensures.same side e.totals e.policies e.failed e.store.1.1
    c.self.invariant)
