use Rattle.std.specs.Prelude.{ℕ, List, [], ◌∷◌, ◌++◌, Some, length, drop, Contains}
use Rattle.flash_dev.specs.Moments.{Stays}

-- a flash in memory that records its images: the bytes now, those before each program and each erase that was done, the oldest first, and how many
-- calls have failed
pub record RecordedState : Type 0 where
  pub bytes : List ℕ
  pub past : List (List ℕ)
  pub faults : ℕ

-- the images from a moment on, the oldest first, which ends with the bytes now (this project's own)
abbrev pub images_since : ℕ → RecordedState → List (List ℕ)
images_since moment state = drop moment (state.past ++ state.bytes ∷ [])

-- the moments of a call of such a flash: how many images are past, and a power loss since a moment leaves one of those from it on (this project's
-- own)
abbrev pub StaysRecorded : (List ℕ → List ℕ → Type 0) → RecordedState → RecordedState → Type 0
StaysRecorded IsLeft = Stays IsLeft (λ state. length state.past) (λ state moment left. Contains (images_since moment state) left) (λ state. Some state.bytes)
