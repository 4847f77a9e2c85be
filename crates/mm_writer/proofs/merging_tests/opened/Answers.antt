use Rattle.std.proofs.Common.{◌≡◌, ap, ◌∙◌}
use Rattle.mm_writer.proofs.Cached.{behind_opened}
use Rattle.mm_writer.specs.Engine.{opened_stores}
use Rattle.mm_writer.specs.Side.{Side}
use Rattle.var_types.specs.Stores.{Stores}
use Rattle.mm_writer.proofs.merging_tests.opened.Goals as goal

pub returns : goal.returns
returns g c =
    let side : Side = c.in-Ok.engine.1.1 in
    let is = c.in-Ok.ensures.side in
    let stores : c.in_ok-cache-in-Ok.cache ≡ opened_stores side.stores.non_volatile =
    c.in_ok-cache-in-Ok.ensures ∙ (λ i.
    let s : Stores = record {
      non_volatile = c.non_volatile.ensures.bytes i;
      volatile = (c.volatile.ensures.bytes ∙ ap (λ (s : Side). s.stores.volatile) is) i;
      runtime = (c.runtime.ensures ∙ ap (λ (s : Side). s.stores.runtime) is) i;
    } in
    s) in
    behind_opened side.stores.non_volatile 20 side c.in_ok-cache-in-Ok.cache is stores
