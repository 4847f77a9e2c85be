-- What an edit of the non-volatile store leaves of the flash, with the heal that goes before it.
use Rattle.std.specs.Prelude.{◌≡◌, ◌⊎◌, ℕ, List, take, Option, Some, None, IsSome}
use Rattle.flash_dev.specs.Moments.{Stays}
use Rattle.var_types.specs.declared.key.Key.{Key}
use Rattle.var_types.specs.declared.store.Store.TheVariants.{NonVolatile}
use Rattle.var_types.specs.declared.variable.Variable.{Variable}
use Rattle.var_types.specs.Kept.{IsSound, content, kept}
use Rattle.var_types.specs.Layout.{headers_size}
use Rattle.var_types.specs.Stores.{map_in}

-- an image keeps the mirror's variables, or where a change is in doubt those of the bytes that it was to leave (this project's own)
abbrev pub IsHeldBut : List ℕ → Option (List ℕ) → List ℕ → Type 0
IsHeldBut mirror None image = kept image ≡ map_in NonVolatile mirror
IsHeldBut mirror (Some after) image = (kept image ≡ map_in NonVolatile mirror) ⊎ (kept image ≡ map_in NonVolatile after)

-- an image that a power loss within an edit may leave, or within the heal before it: it keeps what it may have kept before, or the mirror's variables
-- with the edit's change, its headers are as they were, and it is no foreign work unless that of before is (this project's own)
pub record IsEditLeft (change : List (Key × Variable) → List (Key × Variable)) (store : List ℕ × Option (List ℕ)) (image left : List ℕ) : Type 0 where
  pub kept : IsHeldBut store.0 store.1 left ⊎ (kept left ≡ change (map_in NonVolatile store.0))
  pub headers : take headers_size (content left) ≡ take headers_size (content image)
  pub sound : IsSound image → IsSound left

-- an image that keeps what it may have kept before
abbrev pub IsStillHeld : List ℕ × Option (List ℕ) → List ℕ → List ℕ → Type 0
IsStillHeld store image left = IsHeldBut store.0 store.1 left

-- a heal of a store failed: its mirror and the change in doubt are as they were, and the flash keeps no more than it may have kept (this project's
-- own)
pub record IsStillInDoubt {F : Type 0} (moment : F → ℕ) (left_since : F → ℕ → List ℕ → Type 0) (holds : F → Option (List ℕ)) (old new : F × (List ℕ × Option (List ℕ))) : Type 0 where
  pub some : IsSome old.1.1
  pub same : new.1 ≡ old.1
  pub at_any_moment : Stays (IsStillHeld old.1) moment left_since holds old.0 new.0
