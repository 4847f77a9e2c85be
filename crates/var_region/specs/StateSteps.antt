-- The steps of a state byte, and what each does to the map of live records.
use Rattle.std.specs.Prelude.{◌≡◌, ◌⊎◌, ℕ, true, false, List, [], ◌∷◌, ◌++◌, bit_and, Some}
use Rattle.std.specs.BTreeMap.{insert_entry, is_at}
use Rattle.std.specs.List.{AllByRecursion, list_any}
use Rattle.std.specs.Map.{remove_entry}
use Rattle.std.specs.Option.{option_or}
use Rattle.var_types.specs.Chosen.{chosen, is_added, is_of}
use Rattle.var_types.specs.declared.record_state.RecordState.TheVariants.{InDeletedTransition}
use Rattle.var_types.specs.Key.{key_cmp}
use Rattle.var_types.specs.Live.{Live}
use Rattle.var_types.specs.Region.{map_of}
use Rattle.var_types.specs.RecordState.{is_added_state}

-- a byte is programmed over another in one bit: whatever an interrupted programming leaves is the one or the other (NOR flash)
pub record IsOneBit (old new : ℕ) : Type 0 where
  pub clears : bit_and old new ≡ new
  pub alone : (left : ℕ) → bit_and left old ≡ left → bit_and left new ≡ new → (left ≡ old) ⊎ (left ≡ new)

-- the steps of a state byte, from erased on: header valid, ADDED, in transition to deleted, deleted; and ADDED to deleted (EDK II, VariableFormat.h)
abbrev pub state_steps : List (ℕ × ℕ)
state_steps = (0xFF, 0x7F) ∷ (0x7F, 0x3F) ∷ (0x3F, 0x3E) ∷ (0x3E, 0x3C) ∷ (0x3F, 0x3D) ∷ []

-- each of these steps is one bit
abbrev pub StateStepsAreOneBit : Type 0
StateStepsAreOneBit = AllByRecursion (λ step. IsOneBit step.0 step.1) state_steps

-- a record in transition may go, wherever it stands, where its key has an ADDED one: the twin before a write, or the old record after it
abbrev pub TwinsMayGo : Type 0
TwinsMayGo =
    (before after : List Live) (twin : Live) → is_added_state twin.state ≡ false → list_any (is_added twin.key) (before ++ after) ≡ true
    → map_of (before ++ after) ≡ map_of (before ++ twin ∷ after)

-- a key's only ADDED record may go into transition, where no other record of the key stands behind it
abbrev pub AddedMayGoIntoTransition : Type 0
AddedMayGoIntoTransition =
    (before after : List Live) (live : Live) → is_added_state live.state ≡ true → list_any (is_added live.key) before ≡ false
    → list_any (is_of live.key) after ≡ false → map_of (before ++ record live { state = InDeletedTransition } ∷ after) ≡ map_of (before ++ live ∷ after)

-- where one does, that one counts from then on: so a twin that stands behind the ADDED record has to go first
abbrev pub TwinsBehindWouldCount : Type 0
TwinsBehindWouldCount =
    (before after : List Live) (live : Live) → list_any (is_added live.key) before ≡ false
    → chosen live.key (before ++ record live { state = InDeletedTransition } ∷ after)
    ≡ option_or (chosen live.key after) (Some (record live { state = InDeletedTransition }))

-- a record that becomes ADDED behind all others puts its variable into the map, where its key has no ADDED one
abbrev pub AddedPutTheirVariable : Type 0
AddedPutTheirVariable =
    (ls : List Live) (live : Live) → is_added_state live.state ≡ true → list_any (is_added live.key) ls ≡ false
    → map_of (ls ++ live ∷ []) ≡ insert_entry key_cmp (map_of ls) live.key live.variable

-- a key's last live record takes the variable with it
abbrev pub LastTakesTheVariable : Type 0
LastTakesTheVariable =
    (before after : List Live) (live : Live) → list_any (is_of live.key) (before ++ after) ≡ false
    → map_of (before ++ after) ≡ remove_entry (is_at (key_cmp live.key)) (map_of (before ++ live ∷ after))
