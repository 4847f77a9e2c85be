use Rattle.std.proofs.Common.{ap, arith, ◌∙◌}
use Rattle.std.proofs.lemmas.List.{with_items_is}
use Rattle.pending_range.specs.Ranges.{is_covered, taken}
use Rattle.runtime_cache.specs.Merged.{merged}
use Rattle.var_types.specs.declared.store.Store.TheVariants.{NonVolatile, Volatile}
use Rattle.runtime_cache.proofs.cache.Cache.merge.Goals as goal

pub returns-clause-is : goal.returns-clause-is
unfolding merged
returns-clause-is c =
    let ranges = c.args.ranges.now in
    let first =
    with_items_is c.self.inside.non_volatile c.copy_covered.new.into (omega arith)
    ∙ c.copy_covered.ensures
    ∙ ap (taken (is_covered ranges NonVolatile) c.args.non_volatile.now) (c.deref_mut.ensures.value ∙ ap (λ s. s.non_volatile) c.self.view_is) in
    let second =
    with_items_is c.self.inside.volatile c.copy_covered-2.new.into (omega arith)
    ∙ c.copy_covered-2.ensures
    ∙ ap (taken (is_covered ranges Volatile) c.args.volatile.now) (c.deref_mut-2.ensures.value ∙ ap (λ s. s.volatile) c.self.view_is) in
    λ i. record { non_volatile = first i; volatile = second i; runtime = c.args.runtime }
