use Rattle.std.proofs.Common.{sym, ap, subst, ◌∙◌}
use Rattle.mm_writer.proofs.Beginnings.{opened_kept, opened_state, side_opened}
use Rattle.mm_writer.proofs.InDoubt.{none_doubted}
use Rattle.mm_writer.specs.Engine.{IsKept, opened_side}
use Rattle.mm_writer.specs.Side.{Side, state_of}
use Rattle.set_rules.specs.RoomTotals.{IsTotalOf}
use Rattle.var_types.specs.declared.store.Store.TheVariants.{NonVolatile}
use Rattle.var_types.specs.Stores.{map_in}
use Rattle.mm_writer.proofs.engine.Engine.over.Goals as goal

pub invariant_of-result : goal.invariant_of-result
invariant_of-result g c =
    let mirror = c.args.store.1.0 in
    let totals = c.first_totals-totals.result in
    let opened =
    side_opened c.of-opened.result.value.1.0 mirror c.args.volatile c.args.trace c.empty.result (ap (λ store. store.1.0) c.of-opened.ensures) c.requires.volatile
    c.requires.trace c.empty.ensures in
    let rooms = subst (λ volume. IsTotalOf totals (map_in NonVolatile volume)) c.mirror.ensures.bytes c.first_totals-totals.ensures in
    record {
      kept =
          subst (λ (s : Side). IsKept s totals c.new.result) (sym opened)
          (subst (IsKept (opened_side mirror c.args.trace.limit) totals) (sym c.new.ensures)
          (opened_kept c.regions_own_their_maps.ensures mirror c.args.trace.limit totals c.maps_hold_what_counts.ensures.ordered
          c.agreement_grows_with_the_ranges.ensures.same rooms));
      doubted = none_doubted _ _ c.none.result c.args.store.1.1 c.requires.sure;
    }

pub returns-clause-state : goal.returns-clause-state
returns-clause-state g c =
    let mirror = c.args.store.1.0 in
    ap state_of
    (side_opened c.of-opened.result.value.1.0 mirror c.args.volatile c.args.trace c.empty.result (ap (λ store. store.1.0) c.of-opened.ensures) c.requires.volatile
    c.requires.trace c.empty.ensures)
    ∙ opened_state c.regions_own_their_maps.ensures mirror c.args.trace.limit
