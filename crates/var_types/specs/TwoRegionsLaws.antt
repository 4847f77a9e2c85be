-- The laws of two maps as one, and of what reads see in two regions.
use Rattle.std.specs.Prelude.{◌≡◌, ◌≤◌, Bool, true, not, List, length, filter, find, All}
use Rattle.std.specs.BTreeMap.{is_at}
use Rattle.std.specs.List.Sorted.{IsStrictlySortedBy}
use Rattle.std.specs.Map.{keys_of, lookup}
use Rattle.std.specs.Option.{option_or}
use Rattle.var_types.specs.declared.call.GetCall.{GetCall}
use Rattle.var_types.specs.declared.call.NextCall.{NextCall}
use Rattle.var_types.specs.declared.key.Key.{Key}
use Rattle.var_types.specs.declared.store.Store.TheVariants.{NonVolatile, Volatile}
use Rattle.var_types.specs.declared.variable.Variable.{Variable}
use Rattle.var_types.specs.Attributes.{has, non_volatile_bit}
use Rattle.var_types.specs.Get.{get_reply}
use Rattle.var_types.specs.Key.{key_cmp}
use Rattle.var_types.specs.Next.{next_reply}
use Rattle.var_types.specs.Region.{Region, region_map}
use Rattle.var_types.specs.State.{State}
use Rattle.var_types.specs.Stores.{Stores, Means, map_in, state_in}
use Rattle.var_types.specs.TwoRegions.{AreApart, joined, lesser}
use Rattle.var_types.specs.Walk.{IsWellFormed}

-- entries stand in strict key order
abbrev pub AreOrdered : List (Key × Variable) → Type 0
AreOrdered entries = IsStrictlySortedBy key_cmp (keys_of entries)

-- two maps joined stand in key order, where the second does
abbrev pub JoinedMapsAreOrdered : Type 0
JoinedMapsAreOrdered = (xs ys : List (Key × Variable)) → AreOrdered ys → AreOrdered (joined xs ys)

-- a look-up in two maps joined is the first's, or else the second's
abbrev pub JoinedLookUps : Type 0
JoinedLookUps =
    (xs ys : List (Key × Variable)) (key : Key)
    → lookup (is_at (key_cmp key)) (joined xs ys) ≡ option_or (lookup (is_at (key_cmp key)) xs) (lookup (is_at (key_cmp key)) ys)

-- the first variable that passes a test, of two maps apart that are joined, is the lesser of the two that the maps have
abbrev pub FirstOfJoinedIsLesser : Type 0
FirstOfJoinedIsLesser =
    (test : Key × Variable → Bool) (xs ys : List (Key × Variable)) → AreOrdered xs → AreOrdered ys → AreApart xs ys
    → find test (joined xs ys) ≡ lesser (find test xs) (find test ys)

-- a map's two parts by a test are apart, and joined they are the map
abbrev pub PartsAreTheMap : Type 0
PartsAreTheMap =
    (test : Key × Variable → Bool) (entries : List (Key × Variable)) → AreOrdered entries
    → AreApart (filter test entries) (filter (λ entry. not (test entry)) entries)
    × (joined (filter test entries) (filter (λ entry. not (test entry)) entries) ≡ entries)

-- two stores that mean a state have no key in both
abbrev pub MeaningStoresAreApart : Type 0
MeaningStoresAreApart =
    (stores : Stores) (state : State) → AreOrdered state.variables → Means stores state
    → AreApart (map_in NonVolatile stores.non_volatile) (map_in Volatile stores.volatile)

-- reads of two stores that mean a state are reads of the state
abbrev pub MeaningStoresAnswerAlike : Type 0
MeaningStoresAnswerAlike =
    (stores : Stores) (state : State) → AreOrdered state.variables → Means stores state
    → ((call : GetCall) → get_reply (state_in stores) call ≡ get_reply state call)
    × ((call : NextCall) → next_reply (state_in stores) call ≡ next_reply state call)

-- what holds of each variable of a region's records: the data are no more than its bytes, the name is well-formed, and in the non-volatile
-- store the variable is non-volatile
pub record IsOwned (region : Region) (entry : Key × Variable) : Type 0 where
  pub fits : length entry.1.bytes ≤ length region.bytes
  pub named : IsWellFormed entry.0.name
  pub kept : region.non_volatile ≡ true → has entry.1.attributes non_volatile_bit ≡ true

-- each variable of a region's map is owned by the region
abbrev pub RegionsOwnTheirMaps : Type 0
RegionsOwnTheirMaps = (region : Region) → All (IsOwned region) (region_map region)
