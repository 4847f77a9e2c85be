-- The moments of a flash, and what a power loss at any of them may leave.
use Rattle.std.specs.Prelude.{◌⊎◌, ℕ, ◌≤◌, List, Option}
use Rattle.flash_dev.specs.Rules.{Leaves, MayLeave}

-- over calls time goes on, and an image that a power loss may have left since a moment before them is one that it may have left by then, or one
-- that stands in this relation to the bytes before them; so do the bytes now, whether the calls were done or not (this project's own)
pub record Stays {F : Type 0} (IsLeft : List ℕ → List ℕ → Type 0) (moment : F → ℕ) (left_since : F → ℕ → List ℕ → Type 0) (holds : F → Option (List ℕ)) (old new : F) : Type 0 where
  pub later : moment old ≤ moment new
  pub each : (t : ℕ) (left : List ℕ) → t ≤ moment old → left_since new t left → left_since old t left ⊎ MayLeave IsLeft (holds old) left
  pub now : Leaves IsLeft (holds old) (holds new)
