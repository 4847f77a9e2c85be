-- What the view of the two stores answers is right in each state that it stands for.
use Rattle.std.proofs.Common.{◌≡◌, ℕ, ◌≤◌, List, sym, ap, subst, ◌∙◌, arith}
use Rattle.std.specs.BTreeMap.{is_at}
use Rattle.std.specs.Map.{lookup}
use Rattle.std.specs.Option.{option_map}
use Rattle.std.specs.Ordering.{nat_cmp, ord_min}
use Rattle.std.proofs.lemmas.Grind.{common_steps}
use Rattle.mm_writer.specs.declared.key_view.KeyView.{KeyView}
use Rattle.mm_writer.specs.declared.view.EngineView.{EngineView}
use Rattle.mm_writer.specs.Stands.{IsTotalWithout, Knows, Stands}
use Rattle.set_rules.proofs.Rooms.{IsTotalOf-without}
use Rattle.set_rules.specs.declared.room_totals.RoomTotals.{RoomTotals}
use Rattle.set_rules.specs.RoomTotals.{totals_without}
use Rattle.var_region.specs.Found.{seen_variable}
use Rattle.var_types.proofs.Joined.{joined-parts}
use Rattle.var_types.specs.declared.key.Key.{Key}
use Rattle.var_types.specs.declared.store.Store.{Store}
use Rattle.var_types.specs.declared.store.Store.TheVariants.{NonVolatile, Volatile}
use Rattle.var_types.specs.declared.variable.Variable.{Variable}
use Rattle.var_types.specs.Key.{key_cmp}
use Rattle.var_types.specs.Region.{region_map}
use Rattle.var_types.specs.Room.{room_limit}
use Rattle.var_types.specs.State.{State, stored_at}
use Rattle.var_types.specs.Stores.{Means, Stores, is_in, map_in, part}
use Rattle.var_types.specs.TwoRegions.{AreApart, joined}
use Rattle.var_types.specs.TwoRegionsLaws.{AreOrdered, MeaningStoresAreApart}

-- the two parts of a state's variables joined are its variables
joined_all : (es : List (Key × Variable)) → AreOrdered es → joined (part NonVolatile es) (part Volatile es) ≡ es
unfolding is_in
joined_all es ordered = joined-parts (is_in NonVolatile) es ordered

-- the lesser of a number and one that is no less is the first
pub lesser_is : (n most : ℕ) → n ≤ most → ord_min nat_cmp n most ≡ n
lesser_is n most h = grind (arith, common_steps)

-- no store has more room than a view can answer
pub limit_small : (store : Store) → room_limit store ≤ 65508
limit_small NonVolatile = omega arith
limit_small Volatile = omega arith

module _ (view : EngineView) (state : State) (stands : Stands view state) where
  -- the variables of both stores are the state's
  pub joined_is : joined (region_map view.non_volatile) (region_map view.volatile) ≡ state.variables
  joined_is = (λ i. joined (stands.non_volatile i) (stands.volatile i)) ∙ joined_all state.variables stands.ordered

  -- what stands at a key of both is what is stored there
  pub at_both : (key : Key) → lookup (is_at (key_cmp key)) (joined (region_map view.non_volatile) (region_map view.volatile)) ≡ stored_at state key
  at_both key = ap (lookup (is_at (key_cmp key))) joined_is

  -- the totals of a view for one key are those of the variables of all others
  pub others_of : (view_at : KeyView) (key : Key) → view_at.view ≡ view → Knows view_at key → IsTotalWithout view_at.rest key state.variables
  others_of view_at key of knows =
      let found : option_map seen_variable view_at.found ≡ lookup (is_at (key_cmp key)) state.variables =
      knows.found ∙ ap (λ (v : EngineView). lookup (is_at (key_cmp key)) (joined (region_map v.non_volatile) (region_map v.volatile))) of ∙ at_both key in
      let rest : view_at.rest ≡ totals_without view.totals key (lookup (is_at (key_cmp key)) state.variables) =
      knows.rest ∙ ap (λ (v : EngineView). totals_without v.totals key (option_map seen_variable view_at.found)) of
      ∙ ap (totals_without view.totals key) found in
      subst (λ (t : RoomTotals). IsTotalWithout t key state.variables) (sym rest) (IsTotalOf-without view.totals key state.variables stands.totals)

  -- no key stands in both
  pub apart_view : (stores : Stores) → Means stores state → MeaningStoresAreApart → AreApart (region_map view.non_volatile) (region_map view.volatile)
  unfolding map_in
  apart_view stores means apart =
      let both = apart stores state stands.ordered means in
      subst (λ xs. AreApart xs (region_map view.volatile)) (means.each NonVolatile ∙ sym stands.non_volatile)
      (subst (λ ys. AreApart (map_in NonVolatile stores.non_volatile) ys) (means.each Volatile ∙ sym stands.volatile) both)
