-- The volatile store without variables, and the side at an opening.
use Rattle.std.proofs.Common.{◌≡◌, ℕ, ◌+◌, ◌-◌, ◌≤◌, ◌%◌, true, false, cond, not, if◌then◌else◌, List, [], ◌∷◌, ◌++◌, length, replicate, refl, sym, ap, ◌∙◌, subst, arith, length-append}
use Rattle.std.proofs.lemmas.List.{length-replicate}
use Rattle.std.proofs.lemmas.List.Elements.{All-from_recursion, recursion_from_All}
use Rattle.std.proofs.lemmas.List.Sums.{sum_by-cons}
use Rattle.std.proofs.Math.Seq.{drop-append_seam}
use Rattle.std.specs.List.{AllByRecursion}
use Rattle.std.specs.Map.{keys_of}
use Rattle.std.specs.Prelude.{sum_by}
use Rattle.flash_dev.specs.Blank.{blank_volatile, store_header}
use Rattle.mm_writer.specs.Engine.{IsKept, opened_side, side_by}
use Rattle.mm_writer.specs.Side.{Side, first_state, state_of}
use Rattle.nv_store.proofs.Rewritten.{always_room}
use Rattle.nv_store.specs.Tidy.{IsSingle, IsTidy}
use Rattle.pending_range.specs.declared.ranges.Ranges.{Ranges}
use Rattle.pending_range.specs.Laws.{AgreementIsReflexive}
use Rattle.pending_range.specs.Ranges.{AgreeOutside, no_ranges}
use Rattle.policy_table.specs.PolicyState.{no_policies}
use Rattle.region_compact.specs.Compacted.{size_after}
use Rattle.region_compact.specs.declared.replace.Replace.TheVariants.{None as Keep}
use Rattle.region_compact.specs.Laws.{SizesAreTheRoom}
use Rattle.set_rules.specs.declared.room_totals.RoomTotals.{RoomTotals}
use Rattle.set_rules.specs.RoomTotals.{IsTotalOf, total_of}
use Rattle.var_region.proofs.Erased.{IsEmptyRegion-erased}
use Rattle.var_region.specs.Laws.{AreErasedFrom, IsEmptyRegion}
use Rattle.var_trace.specs.Recorded.{Recorded}
use Rattle.var_trace.specs.StoresAfter.{bytes_at, history_in}
use Rattle.var_types.specs.Attributes.{has, non_volatile_bit, store_of}
use Rattle.var_types.specs.declared.key.Key.{Key}
use Rattle.var_types.specs.declared.store.Store.{Store}
use Rattle.var_types.specs.declared.store.Store.TheVariants.{NonVolatile, Volatile}
use Rattle.var_types.specs.declared.variable.Variable.{Variable}
use Rattle.var_types.specs.History.{after}
use Rattle.var_types.specs.Laws.{MapsStandInKeyOrder}
use Rattle.var_types.specs.Layout.{volume_size}
use Rattle.var_types.specs.Live.{Live, lives}
use Rattle.var_types.specs.Record.{Authenticated}
use Rattle.var_types.specs.Region.{region_lives, region_map}
use Rattle.var_types.specs.Room.{in_store, room_in, room_limit, room_of, room_used}
use Rattle.var_types.specs.State.{start}
use Rattle.var_types.specs.Stores.{Means, bytes_in, is_in, map_in, part, store_region}
use Rattle.var_types.specs.TwoRegionsLaws.{IsOwned, RegionsOwnTheirMaps}
use Rattle.var_types.specs.Walk.{IsWellFormed}

header_size : length (store_header 65536) ≡ 28
header_size = refl

-- bytes are erased behind a front
erased_behind : (front : List ℕ) (n : ℕ) → AreErasedFrom (length front) (front ++ replicate n 255)
erased_behind front n =
    let size : length (front ++ replicate n 255) - length front ≡ n =
    omega (arith, length-append front (replicate n 255), length-replicate {A = ℕ} n 255) in
    drop-append_seam front (replicate n 255) ∙ ap (λ k. replicate k 255) (sym size)

-- it has no record
blank_is_empty : IsEmptyRegion (store_region Volatile blank_volatile)
unfolding blank_volatile
blank_is_empty =
    IsEmptyRegion-erased (store_region Volatile (store_header 65536 ++ replicate 65508 255))
    (subst (λ at. AreErasedFrom at (store_header 65536 ++ replicate 65508 255)) header_size (erased_behind (store_header 65536) 65508))

-- without live records none is there twice
none_twice : (ls : List Live) → ls ≡ [] → IsSingle ls
none_twice ls none = subst IsSingle (sym none) (record { added = λ key. omega arith; in_transition = λ key. omega arith })

pub blank_tidy : IsTidy (store_region Volatile blank_volatile)
unfolding region_lives
blank_tidy = record {
  clean = blank_is_empty.clean;
  single = none_twice (region_lives (store_region Volatile blank_volatile)) (ap (λ rs. lives Authenticated false blank_volatile rs) blank_is_empty.no_records);
}

-- and no variable
pub blank_map : map_in Volatile blank_volatile ≡ []
unfolding map_in
blank_map = blank_is_empty.no_variables

pub blank_size : length blank_volatile ≡ 65536
unfolding blank_volatile
blank_size =
    length-append (store_header 65536) (replicate 65508 255) ∙ ap (λ n. length (store_header 65536) + n) (length-replicate {A = ℕ} 65508 255)
    ∙ ap (λ n. n + 65508) header_size

-- ---- the side at an opening

-- the side by its parts
pub side_opened : (first volume volatile : List ℕ) (trace : Recorded) (ranges : Ranges) → first ≡ volume → volatile ≡ blank_volatile → trace.log ≡ []
    → ranges ≡ no_ranges
    → side_by first volume volatile (record { trace = trace; ranges = ranges; flushed = 0; runtime = false }) ≡ opened_side volume trace.limit
side_opened first volume volatile trace ranges of blank empty none = λ i.
    side_by (of i) volume (blank i)
    (record { trace = record { log = empty i; limit = trace.limit }; ranges = none i; flushed = 0; runtime = false })

-- entries that are all non-volatile are those of the non-volatile store, and none is of the other
record AreNonVolatile (es : List (Key × Variable)) : Type 0 where
  here : part NonVolatile es ≡ es
  there : part Volatile es ≡ []
  rooms : sum_by (λ (entry : Key × Variable). room_of entry.0 entry.1) es ≡ room_used NonVolatile es
  none : room_used Volatile es ≡ 0

non_volatile_entry : (entry : Key × Variable) → has entry.1.attributes non_volatile_bit ≡ true → store_of entry.1.attributes ≡ NonVolatile
non_volatile_entry entry h = ap (λ b. if b then NonVolatile else Volatile) h

non_volatile_all : (es : List (Key × Variable)) → AllByRecursion (λ (entry : Key × Variable). has entry.1.attributes non_volatile_bit ≡ true) es
    → AreNonVolatile es
unfolding is_in room_in
non_volatile_all [] all = record { here = refl; there = refl; rooms = refl; none = refl }
non_volatile_all (entry ∷ es) all =
    let rest = non_volatile_all es all.1 in
    let store = non_volatile_entry entry all.0 in
    let here : room_in NonVolatile entry ≡ room_of entry.0 entry.1 = ap (λ s. in_store NonVolatile s (room_of entry.0 entry.1)) store in
    let there : room_in Volatile entry ≡ 0 = ap (λ s. in_store Volatile s (room_of entry.0 entry.1)) store in
    record {
      here = ap (λ b. cond b (entry ∷ part NonVolatile es) (part NonVolatile es)) all.0 ∙ ap (λ list. entry ∷ list) rest.here;
      there = ap (λ b. cond (not b) (entry ∷ part Volatile es) (part Volatile es)) all.0 ∙ rest.there;
      rooms = sum_by-cons (λ (e : Key × Variable). room_of e.0 e.1) entry es ∙ (λ i. sym here i + rest.rooms i) ∙ sym (sum_by-cons (room_in NonVolatile) entry es);
      none = sum_by-cons (room_in Volatile) entry es ∙ (λ i. there i + rest.none i);
    }

module _ (own : RegionsOwnTheirMaps) (volume : List ℕ) where
  abbrev map : List (Key × Variable)
  map = map_in NonVolatile volume

  owned : AllByRecursion (IsOwned (store_region NonVolatile volume)) map
  unfolding map_in
  owned = recursion_from_All (IsOwned (store_region NonVolatile volume)) (region_map (store_region NonVolatile volume)) (own (store_region NonVolatile volume))

  all_non_volatile : (es : List (Key × Variable)) → AllByRecursion (IsOwned (store_region NonVolatile volume)) es
      → AllByRecursion (λ (entry : Key × Variable). has entry.1.attributes non_volatile_bit ≡ true) es
  all_non_volatile [] all = tt
  all_non_volatile (entry ∷ es) all = (all.0.kept refl, all_non_volatile es all.1)

  all_named : (es : List (Key × Variable)) → AllByRecursion (IsOwned (store_region NonVolatile volume)) es
      → AllByRecursion (λ (key : Key). IsWellFormed key.name) (keys_of es)
  all_named [] all = tt
  all_named (entry ∷ es) all = (all.0.named, all_named es all.1)

  its : AreNonVolatile map
  its = non_volatile_all map (all_non_volatile map owned)

  -- the totals of a volume
  pub first_rooms : (room : ℕ) → SizesAreTheRoom → length volume ≡ volume_size → room ≡ size_after (store_region NonVolatile volume) Keep
      → IsTotalOf (record { non_volatile = room; volatile = 0 }) map
  unfolding map_in
  first_rooms room sizes size is =
      let all : room ≡ room_used NonVolatile map = is ∙ sizes (store_region NonVolatile volume) Keep ∙ its.rooms in
      let fits = always_room NonVolatile volume (omega (arith, size)) (ap (λ n. n % 4) size) in
      let within : room ≤ 57244 = omega (arith, fits, is, size) in
      let none : 0 ≤ 65508 = omega arith in
      record { summed = summed all; within = bound within none }
    where
      summed : room ≡ room_used NonVolatile map → (store : Store) → total_of (record { non_volatile = room; volatile = 0 }) store ≡ room_used store map
      summed all NonVolatile = all
      summed all Volatile = sym its.none

      bound : room ≤ 57244 → 0 ≤ 65508 → (store : Store) → total_of (record { non_volatile = room; volatile = 0 }) store ≤ room_limit store
      bound within none NonVolatile = within
      bound within none Volatile = none

  module _ (limit : ℕ) where
    abbrev side : Side
    side = opened_side volume limit

    -- its state is a start with the volume's variables
    pub opened_state : state_of side ≡ start map limit
    unfolding state_of first_state
    opened_state = refl

    means_opened : Means side.stores (start map limit)
    means_opened = record { each = each; phase = refl }
      where
        each : (store : Store) → map_in store (bytes_in side.stores store) ≡ part store map
        each NonVolatile = sym its.here
        each Volatile = blank_map ∙ sym its.there

    pub opened_kept : (totals : RoomTotals) → MapsStandInKeyOrder → AgreementIsReflexive → IsTotalOf totals map → IsKept side totals no_policies
    unfolding state_of first_state region_map map_in
    opened_kept totals ordered same rooms = record {
      consistent = record {
        stores = refl;
        means = λ b within.
            subst (λ n. Means (bytes_at side.opening side.log n) (after (first_state side) (history_in side.log) n)) (none b within) means_opened;
        made = refl;
        limit = refl;
        sound = record {
          ordered = ordered (region_lives (store_region NonVolatile volume));
          named = All-from_recursion (λ (key : Key). IsWellFormed key.name) (keys_of map) (all_named map owned);
        };
        flushed = omega arith;
        pending = λ b low within.
            subst (λ n. AgreeOutside side.ranges (bytes_at side.opening side.log n) side.stores) (none b within) (same side.ranges side.stores);
      };
      rooms = rooms;
      policies = refl;
    }
      where
        none : (b : ℕ) → b ≤ 0 → 0 ≡ b
        none b within = omega arith
