-- What the writer's side keeps says which state its view stands for.
use Rattle.std.proofs.Common.{◌≡◌, length, sym, ap, ◌∙◌}
use Rattle.mm_writer.proofs.Sides.{means_now}
use Rattle.mm_writer.specs.declared.view.EngineView.{EngineView}
use Rattle.mm_writer.specs.Engine.{IsKept}
use Rattle.mm_writer.specs.Side.{Side, state_of}
use Rattle.mm_writer.specs.Stands.{Stands}
use Rattle.policy_table.specs.PolicyState.{PolicyState, policies_of}
use Rattle.var_types.specs.declared.store.Store.TheVariants.{NonVolatile, Volatile}
use Rattle.var_types.specs.Region.{region_map}
use Rattle.var_types.specs.Stores.{map_in, store_region}

pub stands_for : (side : Side) (view : EngineView) (table : PolicyState) → IsKept side view.totals table → view.non_volatile ≡ store_region NonVolatile side.stores.non_volatile
    → view.volatile ≡ store_region Volatile side.stores.volatile → view.runtime ≡ side.stores.runtime → view.made ≡ length side.log
    → view.limit ≡ side.limit → policies_of (state_of side) ≡ view.policies.now → Stands view (state_of side)
unfolding map_in
stands_for side view table kept non_volatile volatile runtime made limit policies = record {
  ordered = kept.consistent.sound.ordered;
  non_volatile = ap region_map non_volatile ∙ (means_now side kept.consistent).each NonVolatile;
  volatile = ap region_map volatile ∙ (means_now side kept.consistent).each Volatile;
  totals = kept.rooms;
  policies = policies;
  runtime = runtime ∙ (means_now side kept.consistent).phase;
  made = made ∙ sym kept.consistent.made;
  limit = limit ∙ sym kept.consistent.limit;
}
