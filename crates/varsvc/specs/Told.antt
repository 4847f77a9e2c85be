-- What is told of what a call of the program is given, and of what it leaves.
use Rattle.std.specs.Prelude.{ℕ, List, Option}

-- what is left of the source; the image, its length, and the image behind the call; how often calls of the flash had failed before it, and have
-- behind it; and the images that a power loss in it may leave (this project's own)
pub record Told : Type 1 where
  pub input : Option (List ℕ)
  pub image : Option (List ℕ)
  pub size : ℕ
  pub after : Option (List ℕ)
  pub faults : ℕ
  pub faults_after : ℕ
  pub left : List ℕ → Type 0

-- what is told of an input, and of a flash before a call and behind it
abbrev pub told_of : {F : Type 0} → (F → Option (List ℕ)) → (F → ℕ) → (F → ℕ) → (F → ℕ) → (F → ℕ → List ℕ → Type 0)
    → Option (List ℕ) → F → F → Told
told_of holds size fault_count moment left_since input flash flash_after = record {
  input = input;
  image = holds flash;
  size = size flash;
  after = holds flash_after;
  faults = fault_count flash;
  faults_after = fault_count flash_after;
  left = left_since flash_after (moment flash);
}
