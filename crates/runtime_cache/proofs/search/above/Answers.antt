use Rattle.std.proofs.Common.{◌∙◌}
use Rattle.var_types.specs.TwoRegions.{lesser}
use Rattle.var_region.specs.Wanted.{bound_of}
use Rattle.runtime_cache.proofs.Searches.{above_both, short_found, short_lesser}
use Rattle.runtime_cache.proofs.search.above.Goals as goal

pub returns-clause-entry : goal.returns-clause-entry
returns-clause-entry c = λ apart.
    c.lesser.ensures.entry
    ∙ (λ i. lesser (c.above.ensures.entry i) (c.above-2.ensures.entry i))
    ∙ above_both c.args.non_volatile.now c.args.volatile.now c.args.runtime (bound_of c.args.guid.now c.args.name.now) apart

pub returns-clause-name : goal.returns-clause-name
returns-clause-name c =
    short_lesser c.above.result c.above-2.result c.lesser.result c.lesser.ensures.entry
    (short_found c.args.non_volatile.now c.above.result c.above.ensures.counts)
    (short_found c.args.volatile.now c.above-2.result c.above-2.ensures.counts)
