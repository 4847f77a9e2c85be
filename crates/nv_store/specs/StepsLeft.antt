-- What single steps leave of an image, by its volume.
use Rattle.std.specs.Prelude.{◌≡◌, ◌⊎◌, ℕ, ◌+◌, List, slice_index}
use Rattle.var_types.specs.declared.store.Store.TheVariants.{NonVolatile}
use Rattle.var_types.specs.declared.key.Key.{Key}
use Rattle.var_types.specs.declared.variable.Variable.{Variable}
use Rattle.var_types.specs.Kept.{volume}
use Rattle.var_types.specs.Layout.{headers_size, volume_size}
use Rattle.var_types.specs.Placed.{IsOutsideKept}
use Rattle.var_types.specs.Stores.{map_in}

-- an image in which nothing but records has changed, and whose volume is such (this project's own)
pub record IsStepLeft (P : List ℕ → Type 0) (image left : List ℕ) : Type 0 where
  pub outside : IsOutsideKept headers_size volume_size image left
  pub is : P (volume left)

-- bytes that are the old or the new ones
abbrev pub IsEither : List ℕ → List ℕ → List ℕ → Type 0
IsEither old new bytes = (bytes ≡ old) ⊎ (bytes ≡ new)

-- bytes with the map of others
abbrev pub IsMapAs : List ℕ → List ℕ → Type 0
IsMapAs old bytes = map_in NonVolatile bytes ≡ map_in NonVolatile old

-- bytes with the map of others, or with that map and a change
abbrev pub IsMapOr : (List (Key × Variable) → List (Key × Variable)) → List ℕ → List ℕ → Type 0
IsMapOr change old bytes = (map_in NonVolatile bytes ≡ map_in NonVolatile old) ⊎ (map_in NonVolatile bytes ≡ change (map_in NonVolatile old))

-- bytes in which a header at an offset may be torn: nothing else has changed, and its state byte is the erased one
pub record IsHeaderTorn (at : ℕ) (old bytes : List ℕ) : Type 0 where
  pub outside : IsOutsideKept at (at + 60) old bytes
  pub state : slice_index bytes (at + 2) ≡ 0xFF
