-- Where a put and a removal write in a store's bytes.
use Rattle.std.specs.Prelude.{ℕ, ◌+◌, Bool, List, [], ◌∷◌, length, find, Option, Some, None, if◌then◌else◌}
use Rattle.std.specs.Option.{option_map}
use Rattle.var_types.specs.Chosen.{is_added, is_in_transition}
use Rattle.var_types.specs.declared.key.Key.{Key}
use Rattle.var_types.specs.declared.record_state.RecordState.{RecordState}
use Rattle.var_types.specs.declared.record_state.RecordState.TheVariants.{Added, InDeletedTransition}
use Rattle.var_types.specs.declared.span.Span.{Span}
use Rattle.var_types.specs.declared.store.Store.{Store}
use Rattle.var_types.specs.Live.{Live}
use Rattle.var_types.specs.Region.{Region, region_lives, tail_offset}
use Rattle.var_types.specs.Stores.{store_region}
use Rattle.var_region.specs.declared.new_record.NewRecord.{NewRecord}
use Rattle.var_region.specs.NewRecord.{new_key, new_size}
use Rattle.var_region.specs.Written.{fits_behind}

-- a range of no bytes (this project's own)
abbrev pub nowhere : Span
nowhere = record { from = 0; to = 0 }

-- the state byte of a record at an offset, where there is one (EDK II, AUTHENTICATED_VARIABLE_HEADER: State stands at 2)
abbrev pub byte_span : Option ℕ → Span
byte_span None = nowhere
byte_span (Some at) = record { from = at + 2; to = at + 3 }

-- the state byte of a live record, where there is one
abbrev pub state_span : Option Live → Span
state_span found = byte_span (option_map (λ live. live.at) found)

-- whether a live record is a key's, and in a state
abbrev pub stands_in : RecordState → Key → Live → Bool
stands_in Added key live = is_added key live
stands_in InDeletedTransition key live = is_in_transition key live

-- the first live record of a key in a state (this project's own)
abbrev pub first_in : RecordState → Key → List Live → Option Live
first_in state key ls = find (stands_in state key) ls

-- the bytes of a new record behind a region's records
abbrev pub new_span : Region → NewRecord → Span
new_span region new = record { from = tail_offset region; to = tail_offset region + new_size new }

-- where a new record is written that fits behind a region's records: its key's two state bytes, and its own bytes (this project's own)
abbrev pub in_place_spans : Region → NewRecord → List Span
in_place_spans region new =
    state_span (first_in InDeletedTransition (new_key new) (region_lives region))
    ∷ state_span (first_in Added (new_key new) (region_lives region))
    ∷ new_span region new
    ∷ []

-- all bytes, where a new record doesn't fit behind the others and the region is written anew (this project's own)
abbrev pub anew_spans : Region → List Span
anew_spans region = record { from = 0; to = length region.bytes } ∷ nowhere ∷ nowhere ∷ []

-- where a put writes, as three ranges (this project's own)
unfoldable pub put_spans : Store → List ℕ → NewRecord → List Span
put_spans store bytes new =
    if fits_behind (store_region store bytes) (new_size new) then in_place_spans (store_region store bytes) new else anew_spans (store_region store bytes)

-- where a removal writes, as two ranges: the two state bytes of the key (this project's own)
unfoldable pub remove_spans : Store → List ℕ → Key → List Span
remove_spans store bytes key =
    state_span (first_in InDeletedTransition key (region_lives (store_region store bytes)))
    ∷ state_span (first_in Added key (region_lives (store_region store bytes)))
    ∷ []
