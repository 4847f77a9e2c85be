-- What the bytes of a work area say, and which bytes say so.
use Rattle.std.proofs.Common.{◌≡◌, ℕ, zero, suc, ◌+◌, ◌-◌, ◌*◌, ◌<◌, ◌≤◌, Bool, true, false, List, [], ◌∷◌, ◌++◌, length, take, drop, replicate, append_assoc, refl, sym, ap, ◌∙◌, arith, length-append}
use Rattle.std.specs.Prelude.{◌==◌, ◌&&◌, if◌then◌else◌}
use Rattle.std.specs.List.{starts_with}
use Rattle.std.proofs.lemmas.Bool.{and_parts, eqb-true}
use Rattle.std.proofs.lemmas.List.{length-replicate, take-append-drop}
use Rattle.var_types.specs.declared.work_state.WorkState.{WorkState}
use Rattle.var_types.specs.declared.work_state.WorkState.TheVariants.{Clean, Pending, Unclean}
use Rattle.var_types.specs.WorkArea.{HasFewSlots, IsClean, IsPending, clean_area, done_slot, done_slots, half_slot, is_blank, pending_area, state_behind, state_from, work_mark, work_state}
use lib.Pointwise.{pointwise}

-- bytes that are found equal are equal
pub found_equal : (xs ys : List ℕ) → pointwise ◌==◌ xs ys ≡ true → xs ≡ ys
found_equal [] [] e = refl
found_equal [] (y ∷ ys) e = cc
found_equal (x ∷ xs) [] e = cc
found_equal (x ∷ xs) (y ∷ ys) e =
    let parts = and_parts (x == y) (pointwise ◌==◌ xs ys) e in
    ap (λ z. z ∷ xs) (eqb-true x y parts.0) ∙ ap (λ zs. y ∷ zs) (found_equal xs ys parts.1)

-- bytes that begin with others are these, and what stands behind them
begins : (mark bytes : List ℕ) → length mark ≡ 16 → starts_with ◌==◌ bytes mark ≡ true → bytes ≡ mark ++ drop 16 bytes
begins mark bytes size e =
    sym (take-append-drop 16 bytes)
    ∙ ap (λ n. take n bytes ++ drop 16 bytes) (sym size)
    ∙ ap (λ front. front ++ drop 16 bytes) (sym (found_equal mark (take (length mark) bytes) e))

-- erased bytes are blank, and blank bytes are erased
pub replicate_blank : (n : ℕ) → is_blank (replicate n 255) ≡ true
replicate_blank zero = refl
replicate_blank (suc n) = replicate_blank n

pub blank_replicate : (bytes : List ℕ) → is_blank bytes ≡ true → bytes ≡ replicate (length bytes) 255
blank_replicate [] e = refl
blank_replicate (b ∷ bytes) e =
    let parts = and_parts (b == 255) (is_blank bytes) e in
    ap (λ z. z ∷ bytes) (eqb-true b 255 parts.0) ∙ ap (λ zs. 255 ∷ zs) (blank_replicate bytes parts.1)

-- each slot has 16 bytes
pub length-done_slots : (n : ℕ) → length (done_slots n) ≡ 16 * n
length-done_slots zero = refl
length-done_slots (suc n) = let more = length-done_slots n in omega arith

length-half : (rest : List ℕ) → length (half_slot ++ rest) ≡ 16 + length rest
length-half rest = omega arith

-- slots that are done are counted
counted : (n left all done end : ℕ) (rest : List ℕ) → n + left ≡ all → done + n ≡ end
    → state_from all done (done_slots n ++ rest) ≡ state_from left end rest
unfolding state_from
counted zero left all done end rest few count =
    let same : all ≡ left = omega arith in
    let at : done ≡ end = omega arith in
    ap (λ a. state_from a done rest) same ∙ ap (λ d. state_from left d rest) at
counted (suc n) left zero done end rest few count = absurd (omega arith)
counted (suc n) left (suc all) done end rest few count = counted n left all (suc done) end rest (omega arith) (omega arith)

-- erased slots are closed, and none behind them is done
closed_behind : (left done m : ℕ) → state_from left done (replicate m 255) ≡ state_behind done (replicate m 255)
unfolding state_from
closed_behind zero done m = refl
closed_behind (suc left) done zero = refl
closed_behind (suc left) done (suc m) = refl

-- a pending slot ends those that are done
half_behind : (left done : ℕ) (rest : List ℕ) → state_from left done (half_slot ++ rest) ≡ state_behind done (half_slot ++ rest)
unfolding state_from
half_behind zero done rest = refl
half_behind (suc left) done rest = refl

-- what erased slots say
clean_behind : (done m : ℕ) → state_behind done (replicate m 255) ≡ Clean done
clean_behind done m =
    ap (λ b. if b then Clean done else if starts_with ◌==◌ (replicate m 255) half_slot && is_blank (drop 16 (replicate m 255)) then Pending done else Unclean)
    (replicate_blank m)

-- what a pending slot says before erased ones
pending_behind : (done m : ℕ) → state_behind done (half_slot ++ replicate m 255) ≡ Pending done
pending_behind done m = ap (λ b. if b then Pending done else Unclean) (replicate_blank m)

-- the work area of which so many slots are used says so
pub clean_says : (slots : ℕ) → slots ≤ 255 → work_state (clean_area slots) ≡ Clean slots
unfolding work_state clean_area
clean_says slots few =
    let m : ℕ = 4080 - 16 * slots in
    counted slots (255 - slots) 255 0 slots (replicate m 255) (omega arith) (omega arith) ∙ closed_behind (255 - slots) slots m ∙ clean_behind slots m

-- the work area in which the write of a slot is pending says so
pub pending_says : (slot : ℕ) → slot < 255 → work_state (pending_area slot) ≡ Pending slot
unfolding work_state pending_area
pending_says slot few =
    let m : ℕ = 4064 - 16 * slot in
    ap (state_from 255 0) (append_assoc (done_slots slot) half_slot (replicate m 255))
    ∙ counted slot (255 - slot) 255 0 slot (half_slot ++ replicate m 255) (omega arith) (omega arith)
    ∙ half_behind (255 - slot) slot (replicate m 255)
    ∙ pending_behind slot m

-- slots are some that are done, and what stands behind them says what all say
record Slots (left done : ℕ) (rest : List ℕ) : Type 0 where
  n : ℕ
  behind : List ℕ
  few : n ≤ left
  split : rest ≡ done_slots n ++ behind
  says : state_from left done rest ≡ state_behind (done + n) behind

-- no slot is done
none_done : (left done : ℕ) (rest : List ℕ) → state_from left done rest ≡ state_behind done rest → Slots left done rest
none_done left done rest says = record {
  n = 0;
  behind = rest;
  few = omega arith;
  split = refl;
  says = let same : done ≡ done + 0 = omega arith in says ∙ ap (λ d. state_behind d rest) same;
}

-- the first slot is tried
tried : (left done : ℕ) (rest : List ℕ) → Slots left (suc done) (drop 16 rest) → (b : Bool) → starts_with ◌==◌ rest done_slot ≡ b → Slots (suc left) done rest
unfolding state_from
tried left done rest more true e = record {
  n = suc more.n;
  behind = more.behind;
  few = omega (arith, more.few);
  split = begins done_slot rest refl e ∙ ap (λ back. done_slot ++ back) more.split;
  says =
      let same : suc done + more.n ≡ done + suc more.n = omega arith in
      ap (λ b. if b then state_from left (suc done) (drop 16 rest) else state_behind done rest) e ∙ more.says ∙ ap (λ d. state_behind d more.behind) same;
}
tried left done rest more false e =
    none_done (suc left) done rest (ap (λ b. if b then state_from left (suc done) (drop 16 rest) else state_behind done rest) e)

-- any slots are of that form
slots_of : (left done : ℕ) (rest : List ℕ) → Slots left done rest
unfolding state_from
slots_of zero done rest = none_done zero done rest refl
slots_of (suc left) done rest = tried left done rest (slots_of left (suc done) (drop 16 rest)) (starts_with ◌==◌ rest done_slot) refl

-- when slots behind those that are done say Clean
behind_clean : (blank half : Bool) (done slots : ℕ) → (if blank then Clean done else if half then Pending done else Unclean) ≡ Clean slots
    → (blank ≡ true) × (done ≡ slots)
behind_clean true half done slots e = (refl, cc)
behind_clean false true done slots e = cc
behind_clean false false done slots e = cc

-- and when they say Pending
behind_pending : (blank half : Bool) (done slot : ℕ) → (if blank then Clean done else if half then Pending done else Unclean) ≡ Pending slot
    → (half ≡ true) × (done ≡ slot)
behind_pending true half done slot e = cc
behind_pending false true done slot e = (refl, cc)
behind_pending false false done slot e = cc

-- a work area that isn't unclean has its header
marked : (b : Bool) (bytes : List ℕ) (state : WorkState) → (state ≡ Unclean → ⊥) → (if b then state_from 255 0 (drop 16 bytes) else Unclean) ≡ state
    → (b ≡ true) × (state_from 255 0 (drop 16 bytes) ≡ state)
marked true bytes state other e = (refl, e)
marked false bytes state other e = absurd (other (sym e))

-- the bytes of a work area that isn't unclean: its header, slots that are done, and what stands behind them
record IsMade (bytes : List ℕ) (state : WorkState) : Type 0 where
  n : ℕ
  behind : List ℕ
  few : n ≤ 255
  split : bytes ≡ work_mark ++ (done_slots n ++ behind)
  says : state_behind n behind ≡ state

made_of : (bytes : List ℕ) (state : WorkState) → (state ≡ Unclean → ⊥) → work_state bytes ≡ state → IsMade bytes state
unfolding work_state
made_of bytes state other e =
    let is = marked (starts_with ◌==◌ bytes work_mark) bytes state other e in
    let slots = slots_of 255 0 (drop 16 bytes) in
    let count : 0 + slots.n ≡ slots.n = omega arith in
    record {
      n = slots.n;
      behind = slots.behind;
      few = slots.few;
      split = begins work_mark bytes refl is.0 ∙ ap (λ back. work_mark ++ back) slots.split;
      says = ap (λ d. state_behind d slots.behind) (sym count) ∙ sym slots.says ∙ is.1;
    }

-- the length of such a work area
made_length : (bytes : List ℕ) (n : ℕ) (behind : List ℕ) → bytes ≡ work_mark ++ (done_slots n ++ behind) → length bytes ≡ (16 + 16 * n) + length behind
made_length bytes n behind split =
    ap length split ∙ omega (arith, length-append (done_slots n) behind, length-done_slots n)

-- only the work area of which so many slots are used says so
pub says_clean : (bytes : List ℕ) (slots : ℕ) → length bytes ≡ 4096 → work_state bytes ≡ Clean slots → (slots ≤ 255) × (bytes ≡ clean_area slots)
unfolding clean_area
says_clean bytes slots size e =
    let made = made_of bytes (Clean slots) (λ other. cc) e in
    let is = behind_clean (is_blank made.behind) _ made.n slots made.says in
    let rest : length made.behind ≡ 4080 - 16 * slots = omega (arith, size, is.1, made_length bytes made.n made.behind made.split) in (
      omega (arith, is.1, made.few),
      made.split
          ∙ ap (λ k. work_mark ++ (done_slots k ++ made.behind)) is.1
          ∙ ap (λ back. work_mark ++ (done_slots slots ++ back)) (blank_replicate made.behind is.0 ∙ ap (λ k. replicate k 255) rest),
    )

-- only the work area in which the write of a slot is pending says so
pub says_pending : (bytes : List ℕ) (slot : ℕ) → length bytes ≡ 4096 → work_state bytes ≡ Pending slot → (slot < 255) × (bytes ≡ pending_area slot)
unfolding pending_area
says_pending bytes slot size e =
    let made = made_of bytes (Pending slot) (λ other. cc) e in
    let is = behind_pending (is_blank made.behind) _ made.n slot made.says in
    let both = and_parts (starts_with ◌==◌ made.behind half_slot) (is_blank (drop 16 made.behind)) is.0 in
    let back = begins half_slot made.behind refl both.0 in
    let long : length made.behind ≡ 16 + length (drop 16 made.behind) = ap length back ∙ length-half (drop 16 made.behind) in
    let whole = made_length bytes made.n made.behind made.split in
    let rest : length (drop 16 made.behind) ≡ 4064 - 16 * slot = omega (arith, size, is.1, whole, long) in (
      omega (arith, is.1, size, whole, long),
      made.split
          ∙ ap (λ k. work_mark ++ (done_slots k ++ made.behind)) is.1
          ∙ ap (λ behind. work_mark ++ (done_slots slot ++ behind))
          (back ∙ ap (λ tail. half_slot ++ tail) (blank_replicate (drop 16 made.behind) both.1 ∙ ap (λ k. replicate k 255) rest))
          ∙ ap (λ slots. work_mark ++ slots) (sym (append_assoc (done_slots slot) half_slot (replicate (4064 - 16 * slot) 255))),
    )

-- a work area has no more slots than 255
pub few_slots : (bytes : List ℕ) (state : WorkState) → length bytes ≡ 4096 → work_state bytes ≡ state → HasFewSlots state
few_slots bytes (Clean slots) size e = (says_clean bytes slots size e).0
few_slots bytes (Pending slot) size e = (says_pending bytes slot size e).0
few_slots bytes Unclean size e = tt

-- slots in order are slots and then one more
pub one_more_slot : (n : ℕ) → done_slots n ++ done_slot ≡ done_slots (suc n)
one_more_slot zero = refl
one_more_slot (suc n) = ap (λ slots. done_slot ++ slots) (one_more_slot n)

-- the length of a work area that is made
pub length-clean_area : (slots : ℕ) → slots ≤ 255 → length (clean_area slots) ≡ 4096
unfolding clean_area
length-clean_area slots few =
    length-append (work_mark ++ done_slots slots) (replicate (4080 - 16 * slots) 255)
    ∙ omega (arith, length-append work_mark (done_slots slots), length-done_slots slots, length-replicate {A = ℕ} (4080 - 16 * slots) 255)

pub length-pending_area : (slot : ℕ) → slot < 255 → length (pending_area slot) ≡ 4096
unfolding pending_area
length-pending_area slot few =
    length-append (work_mark ++ done_slots slot ++ half_slot) (replicate (4064 - 16 * slot) 255)
    ∙ omega (
      arith,
      length-append (work_mark ++ done_slots slot) half_slot,
      length-append work_mark (done_slots slot),
      length-done_slots slot,
      length-replicate {A = ℕ} (4064 - 16 * slot) 255,
    )

-- a slot that isn't done ends those that are
pub ends_slots : (left done : ℕ) (rest : List ℕ) → starts_with ◌==◌ rest done_slot ≡ false → state_from left done rest ≡ state_behind done rest
unfolding state_from
ends_slots zero done rest e = refl
ends_slots (suc left) done rest e = ap (λ b. if b then state_from left (suc done) (drop 16 rest) else state_behind done rest) e

-- a slot that is done is counted
next_slot : (left done : ℕ) (rest : List ℕ) → starts_with ◌==◌ rest done_slot ≡ true → state_from (suc left) done rest ≡ state_from left (suc done) (drop 16 rest)
unfolding state_from
next_slot left done rest e = ap (λ b. if b then state_from left (suc done) (drop 16 rest) else state_behind done rest) e

pub counts_slot : (done : ℕ) (rest : List ℕ) → done < 255 → starts_with ◌==◌ rest done_slot ≡ true
    → state_from (255 - (done + 1)) (done + 1) (drop 16 rest) ≡ state_from (255 - done) done rest
counts_slot done rest few e =
    let now : suc (255 - (done + 1)) ≡ 255 - done = omega arith in
    let more : done + 1 ≡ suc done = omega arith in
    ap (λ d. state_from (255 - (done + 1)) d (drop 16 rest)) more ∙ sym (next_slot (255 - (done + 1)) done rest e) ∙ ap (λ left. state_from left done rest) now

-- after 255 slots none is left
pub all_slots : (done : ℕ) (rest : List ℕ) → done ≡ 255 → state_from (255 - done) done rest ≡ state_behind 255 rest
unfolding state_from
all_slots done rest e = ap (λ d. state_from (255 - d) d rest) e

-- behind its header a work area says what its slots say
pub marked_state : (bytes : List ℕ) → starts_with ◌==◌ bytes work_mark ≡ true → work_state bytes ≡ state_from 255 0 (drop 16 bytes)
unfolding work_state
marked_state bytes e = ap (λ b. if b then state_from 255 0 (drop 16 bytes) else Unclean) e

-- the slots of a state in which no write is pending, and the slot of one in which one is
pub slots_of_clean : (state : WorkState) → IsClean state → (slots : ℕ) × (state ≡ Clean slots)
slots_of_clean (Clean slots) is = (slots, refl)
slots_of_clean (Pending slot) is = absurd is
slots_of_clean Unclean is = absurd is

pub slot_of_pending : (state : WorkState) → IsPending state → (slot : ℕ) × (state ≡ Pending slot)
slot_of_pending (Clean slots) is = absurd is
slot_of_pending (Pending slot) is = (slot, refl)
slot_of_pending Unclean is = absurd is
