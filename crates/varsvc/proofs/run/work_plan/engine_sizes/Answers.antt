use Rattle.std.proofs.Common.{ℕ, List, ap, ◌∙◌}
use Rattle.mm_writer.specs.Side.{Side}
use Rattle.report_text.specs.Sizes.{sizes_of}
use Rattle.var_types.specs.declared.store.Store.TheVariants.{NonVolatile, Volatile}
use Rattle.var_types.specs.Stores.{map_in}
use Rattle.varsvc.proofs.Worked.{all_sizes}
use Rattle.varsvc.proofs.run.work_plan.engine_sizes.Goals as goal

pub returns : goal.returns
returns g c =
    let side : Side = c.args.engine.now.1.1 in
    all_sizes side c.in_ok-kept.kept c.in_ok-lost.lost c.trace-consistent.ensures.consistent
    (c.in_ok-kept.ensures.sizes ∙ ap (λ (bytes : List ℕ). sizes_of (map_in NonVolatile bytes)) c.non_volatile.ensures.bytes)
    (c.in_ok-lost.ensures.sizes ∙ ap (λ (bytes : List ℕ). sizes_of (map_in Volatile bytes)) c.volatile.ensures.bytes)
