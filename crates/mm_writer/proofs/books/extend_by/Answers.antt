use Rattle.std.proofs.Common.{inl, inr, ⊎_elim, subst}
use Rattle.std.proofs.lemmas.List.{drop_all}
use Rattle.var_types.specs.Spans.{IsInside}
use Rattle.mm_writer.proofs.Entered.{inside_next, wider_both, wider_none}
use Rattle.mm_writer.proofs.books.extend_by.Goals as goal

pub loop-span-init : goal.loop-span-init
loop-span-init c = record { wider = wider_none c.args.ranges.now; covers = λ at inside. inr inside }

pub loop-span-preserved : goal.loop-span-preserved
loop-span-preserved c = record {
  wider = wider_both c.args.ranges.now c.loop-span.ranges c.extend.new.self c.loop-span.invariant.wider c.extend.ensures.wider;
  covers = λ at inside.
      ⊎_elim (λ covered. inl (c.extend.ensures.wider.wider c.args.store at covered))
      (λ left. ⊎_elim (λ here. inl (c.extend.ensures.covers at here.0 here.1)) inr
      (inside_next at c.args.spans.now c.loop-span.span-index _ c.loop-span-test.true left))
      (c.loop-span.invariant.covers at inside);
}

pub returns-clause-wider : goal.returns-clause-wider
returns-clause-wider c = c.loop-span.invariant.wider

pub returns-clause-covers : goal.returns-clause-covers
returns-clause-covers c = λ at inside.
    ⊎_elim (λ covered. covered)
    (λ left. absurd (subst (IsInside at) (drop_all c.loop-span.span-index c.args.spans.now c.loop-span-test.false) left))
    (c.loop-span.invariant.covers at inside)
