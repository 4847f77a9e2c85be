-- Steps that turn a state byte, by what they leave of the map.
use Rattle.std.proofs.Common.{◌≡◌, inl, inr, ⊎_elim, ℕ, List, ap, ◌∙◌}
use Rattle.var_region.proofs.StateBits.{StateStepsAreOneBit-all}
use Rattle.var_region.specs.StateSteps.{IsOneBit}
use Rattle.var_types.specs.declared.key.Key.{Key}
use Rattle.var_types.specs.declared.store.Store.TheVariants.{NonVolatile}
use Rattle.var_types.specs.declared.variable.Variable.{Variable}
use Rattle.var_types.specs.Stores.{map_in}
use Rattle.nv_store.specs.StepsLeft.{IsEither, IsMapAs, IsMapOr}

-- each of the steps is one bit
pub valid_bit : IsOneBit 0xFF 0x7F
valid_bit = StateStepsAreOneBit-all.0

pub added_bit : IsOneBit 0x7F 0x3F
added_bit = StateStepsAreOneBit-all.1.0

pub transition_bit : IsOneBit 0x3F 0x3E
transition_bit = StateStepsAreOneBit-all.1.1.0

pub deleted_bit : IsOneBit 0x3E 0x3C
deleted_bit = StateStepsAreOneBit-all.1.1.1.0

pub removed_bit : IsOneBit 0x3F 0x3D
removed_bit = StateStepsAreOneBit-all.1.1.1.1.0

-- either bytes have the map, where the new ones do
pub either_as : (old new : List ℕ) → map_in NonVolatile new ≡ map_in NonVolatile old → (v : List ℕ) → IsEither old new v → IsMapAs old v
either_as old new map v = ⊎_elim (λ e. ap (map_in NonVolatile) e) (λ e. ap (map_in NonVolatile) e ∙ map)

-- or the map with a change
pub either_or : (change : List (Key × Variable) → List (Key × Variable)) (old new : List ℕ) → map_in NonVolatile new ≡ change (map_in NonVolatile old)
    → (v : List ℕ) → IsEither old new v → IsMapOr change old v
either_or change old new map v = ⊎_elim (λ e. inl (ap (map_in NonVolatile) e)) (λ e. inr (ap (map_in NonVolatile) e ∙ map))
