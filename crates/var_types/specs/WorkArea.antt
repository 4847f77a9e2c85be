-- The work area of fault-tolerant writes: what its bytes say, and which bytes say so (this project's own, as the whole of its layout).
use Rattle.std.specs.Prelude.{◌<◌, ◌≤◌, ℕ, zero, suc, ◌-◌, ◌*◌, ◌==◌, ◌&&◌, Bool, List, [], ◌∷◌, ◌++◌, codes, drop, replicate, if◌then◌else◌}
use Rattle.std.specs.List.{list_all, starts_with}
use Rattle.var_types.specs.declared.work_state.WorkState.{WorkState}
use Rattle.var_types.specs.declared.work_state.WorkState.TheVariants.{Clean, Pending, Unclean}

-- whether all bytes are erased (this project's own)
abbrev pub is_blank : List ℕ → Bool
is_blank bytes = list_all (λ b. b == 0xFF) bytes

-- the header of a work area that is made: its signature and its gate, which is open (this project's own)
abbrev pub work_mark : List ℕ
work_mark = codes "VARSVC-FTW-0001" ++ 0xFE ∷ []

-- a slot whose write is done: its spare gate and its destination gate are open (this project's own)
abbrev pub done_slot : List ℕ
done_slot =
    0xFE ∷ 0xFE ∷ 0xFF ∷ 0xFF ∷ 0xFF ∷ 0xFF ∷ 0xFF ∷ 0xFF ∷ 0xFF ∷ 0xFF ∷ 0xFF ∷ 0xFF ∷ 0xFF ∷ 0xFF ∷ 0xFF ∷ 0xFF ∷ []

-- a slot whose write is pending: its spare gate is open, and its destination gate is closed (this project's own)
abbrev pub half_slot : List ℕ
half_slot =
    0xFE ∷ 0xFF ∷ 0xFF ∷ 0xFF ∷ 0xFF ∷ 0xFF ∷ 0xFF ∷ 0xFF ∷ 0xFF ∷ 0xFF ∷ 0xFF ∷ 0xFF ∷ 0xFF ∷ 0xFF ∷ 0xFF ∷ 0xFF ∷ []

-- what the slots behind those that are done say: all are closed, or the first is pending and all others are closed (this project's own)
abbrev pub state_behind : ℕ → List ℕ → WorkState
state_behind slots rest =
    if is_blank rest then Clean slots else if starts_with ◌==◌ rest half_slot && is_blank (drop 16 rest) then Pending slots else Unclean

-- what the slots say of which so many are left, behind so many that are done (this project's own)
unfoldable pub state_from : ℕ → ℕ → List ℕ → WorkState
state_from zero slots rest = state_behind slots rest
state_from (suc left) slots rest = if starts_with ◌==◌ rest done_slot then state_from left (suc slots) (drop 16 rest) else state_behind slots rest

-- what a work area says: its header, and 255 slots behind it (this project's own)
unfoldable pub work_state : List ℕ → WorkState
work_state bytes = if starts_with ◌==◌ bytes work_mark then state_from 255 0 (drop 16 bytes) else Unclean

-- no write is pending (this project's own)
abbrev pub IsClean : WorkState → Type 0
IsClean (Clean slots) = Unit {0}
IsClean (Pending slot) = ⊥
IsClean Unclean = ⊥

-- a write is pending (this project's own)
abbrev pub IsPending : WorkState → Type 0
IsPending (Clean slots) = ⊥
IsPending (Pending slot) = Unit {0}
IsPending Unclean = ⊥

-- a state of 255 slots (this project's own)
abbrev pub HasFewSlots : WorkState → Type 0
HasFewSlots (Clean slots) = slots ≤ 255
HasFewSlots (Pending slot) = slot < 255
HasFewSlots Unclean = Unit {0}

-- so many slots that are done (this project's own)
abbrev pub done_slots : ℕ → List ℕ
done_slots zero = []
done_slots (suc n) = done_slot ++ done_slots n

-- a work area of which so many slots are used, and no write is pending (this project's own)
unfoldable pub clean_area : ℕ → List ℕ
clean_area slots = work_mark ++ done_slots slots ++ replicate (4080 - 16 * slots) 0xFF

-- a work area in which the write of a slot is pending, behind those that are used (this project's own)
unfoldable pub pending_area : ℕ → List ℕ
pending_area slot = work_mark ++ done_slots slot ++ half_slot ++ replicate (4064 - 16 * slot) 0xFF
