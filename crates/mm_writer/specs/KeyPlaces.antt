-- Where the records of a key stand, and bytes in which the state byte at such a place is another.
use Rattle.std.specs.Prelude.{ℕ, ◌+◌, List, Option, Some, None, bit_and, is_some, if◌then◌else◌, slice_index}
use Rattle.std.specs.Option.{option_map, option_or}
use Rattle.mm_writer.specs.declared.key_places.KeyPlaces.{KeyPlaces}
use Rattle.nv_store.specs.Places.{first_in}
use Rattle.var_region.specs.Written.{state_set}
use Rattle.var_types.specs.declared.key.Key.{Key}
use Rattle.var_types.specs.declared.record_state.RecordState.{RecordState}
use Rattle.var_types.specs.declared.record_state.RecordState.TheVariants.{Added, InDeletedTransition}
use Rattle.var_types.specs.Live.{Live}

-- the offset of the first live record of a key in a state (this project's own)
abbrev pub place_in : RecordState → Key → List Live → Option ℕ
place_in state key ls = option_map (λ live. live.at) (first_in state key ls)

-- the places of a key among live records, by state
abbrev pub places_in : Key → List Live → KeyPlaces
places_in key ls = record { added = place_in Added key ls; in_transition = place_in InDeletedTransition key ls }

-- places that were found, and where there are none those behind them
abbrev pub places_or : KeyPlaces → KeyPlaces → KeyPlaces
places_or found behind = record {
  added = option_or found.added behind.added;
  in_transition = option_or found.in_transition behind.in_transition;
}

-- the place of the record in transition to deleted that stands beside an ADDED one (this project's own)
abbrev pub twin_place : KeyPlaces → Option ℕ
twin_place places = if is_some places.added then places.in_transition else None

-- the place of the record that counts: the ADDED one, else the one in transition to deleted
abbrev pub old_place : KeyPlaces → Option ℕ
old_place places = option_or places.added places.in_transition

-- bytes in which the bits that a mask lacks are cleared in the state of the record at a place, where there is one
abbrev pub cleared : Option ℕ → ℕ → List ℕ → List ℕ
cleared None mask bytes = bytes
cleared (Some at) mask bytes = state_set at (bit_and (slice_index bytes (at + 2)) mask) bytes
