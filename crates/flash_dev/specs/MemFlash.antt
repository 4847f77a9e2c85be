use Rattle.std.specs.Prelude.{◌≡◌, ℕ, ◌+◌, ◌-◌, ◌^◌, min, ◌==◌, ◌||◌, Bool, false, List, [], ◌∷◌, Option, Some, None, nat_lt, if◌then◌else◌}
use Rattle.std.specs.List.{list_any}
use Rattle.flash_dev.specs.declared.fault_plan.Torn.{Torn}
use Rattle.flash_dev.specs.declared.fault_plan.Torn.TheVariants as torn
use Rattle.flash_dev.specs.declared.fate.Fate.{Fate}
use Rattle.flash_dev.specs.declared.fate.Fate.TheVariants as fate
use Rattle.flash_dev.specs.Moments.{Stays}
use Rattle.flash_dev.specs.Rules.{block_filled, programmed}

-- a plan of faults: the numbers of calls that fail, the number from which on all do, and what becomes of those that are torn
pub record PlannedFaults : Type 0 where
  pub fails : List ℕ
  pub stop_at : Option ℕ
  pub torn : Torn

-- a flash in memory: its bytes, the plan of its faults, and how many calls were made and have failed
pub record MemoryState : Type 0 where
  pub bytes : List ℕ
  pub plan : PlannedFaults
  pub calls : ℕ
  pub faults : ℕ

-- whether a call comes behind the one at which the flash stops, and whether it is that one
abbrev pub is_stopped : Option ℕ → ℕ → Bool
is_stopped None call = false
is_stopped (Some stop) call = nat_lt stop call

abbrev pub is_stop : Option ℕ → ℕ → Bool
is_stop None call = false
is_stop (Some stop) call = stop == call

-- what becomes of a call by its number: it has no effect behind the one at which the flash stops, is torn there and where it is listed, and is
-- done else (this project's own)
abbrev pub fate_of : PlannedFaults → ℕ → Fate
fate_of plan call =
    if is_stopped plan.stop_at call then fate.Lost
    else if is_stop plan.stop_at call || list_any (λ n. n == call) plan.fails then fate.Torn plan.torn
    else fate.Done

-- bytes of which only those at even offsets clear bits: the others are 0xFF
abbrev pub even_bytes : List ℕ → List ℕ
even_bytes [] = []
even_bytes (byte ∷ []) = byte ∷ []
even_bytes (byte ∷ other ∷ rest) = byte ∷ 0xFF ∷ even_bytes rest

-- the image after bytes were programmed at an offset, by the fate of the call
abbrev pub torn_program : Torn → ℕ → List ℕ → List ℕ → List ℕ
torn_program torn.Before at bytes image = image
torn_program torn.Half at bytes image = programmed at (even_bytes bytes) image
torn_program torn.After at bytes image = programmed at bytes image

abbrev pub fated_program : Fate → ℕ → List ℕ → List ℕ → List ℕ
fated_program fate.Done at bytes image = programmed at bytes image
fated_program (fate.Torn torn) at bytes image = torn_program torn at bytes image
fated_program fate.Lost at bytes image = image

-- the image after a block was erased, by the fate of the call
abbrev pub torn_erase : Torn → ℕ → List ℕ → List ℕ
torn_erase torn.Before block image = image
torn_erase torn.Half block image = block_filled block 0xA5 image
torn_erase torn.After block image = block_filled block 0xFF image

abbrev pub fated_erase : Fate → ℕ → List ℕ → List ℕ
fated_erase fate.Done block image = block_filled block 0xFF image
fated_erase (fate.Torn torn) block image = torn_erase torn block image
fated_erase fate.Lost block image = image

-- the number of the next call, which stands still at the greatest `u32` (this project's own)
abbrev pub next_call : ℕ → ℕ
next_call call = min (call + 1) (2 ^ 32 - 1)

-- the moments of a call of a flash in memory, which keeps no past image: what a power loss may have left is told as the bytes now (this project's
-- own)
abbrev pub StaysInMemory : (List ℕ → List ℕ → Type 0) → MemoryState → MemoryState → Type 0
StaysInMemory IsLeft = Stays IsLeft (λ _. 0) (λ memory _ left. left ≡ memory.bytes) (λ memory. Some memory.bytes)
