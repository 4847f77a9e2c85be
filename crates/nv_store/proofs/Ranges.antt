-- Bytes that are written in some ranges alone.
use Rattle.std.proofs.Common.{◌≡◌, ◌≢◌, ◌⊎◌, inl, inr, ⊎_elim, ℕ, ◌+◌, ◌-◌, ◌≤◌, ◌<◌, Bool, true, false, cond, not, ◌&&◌, ◌||◌, List, [], ◌∷◌, length, drop, get_or, Some, refl, sym, ap, subst, ◌∙◌, arith, count_by, length-drop, nat_lt, ltb-true, ltb-false}
use Rattle.std.proofs.lemmas.Grind.{same_number_lists}
use Rattle.std.proofs.lemmas.List.{get_or-drop, get_or-take, length-take-le}
use Rattle.std.proofs.Math.ListN.{get_or-append}
use Rattle.std.specs.List.{AllByRecursion, list_any}
use Rattle.var_types.proofs.Placed.{before_placed, behind_placed, here_placed, length-placed}
use Rattle.var_types.specs.Chosen.{is_of}
use Rattle.var_types.specs.declared.key.Key.{Key}
use Rattle.var_types.specs.declared.record_state.RecordState.{RecordState}
use Rattle.var_types.specs.declared.record_state.RecordState.TheVariants.{Added, InDeletedTransition}
use Rattle.var_types.specs.declared.span.Span.{Span}
use Rattle.var_types.specs.Live.{Live}
use Rattle.var_types.specs.Placed.{placed}
use Rattle.var_types.specs.RecordState.{is_added_state}
use Rattle.var_types.specs.Spans.{AreWithin, IsInside, cut, pasted}
use Rattle.nv_store.specs.Places.{first_in, stands_in, state_span}
use Rattle.nv_store.specs.Steps.{IsApart, IsOutside}
use Rattle.nv_store.proofs.Counts.{count-cons, none_counted}

-- one number is below another, or isn't
pub split : (k n : ℕ) → (k < n) ⊎ (n ≤ k)
split k n = by (nat_lt k n) refl
  where
    by : (b : Bool) → nat_lt k n ≡ b → (k < n) ⊎ (n ≤ k)
    by true e = inl (ltb-true k n e)
    by false e = inr (ltb-false k n e)

-- an offset that is in no range is outside of it
pub outside_of : (span : Span) (k : ℕ) → ((span.from ≤ k) × (k < span.to) → ⊥) → IsOutside span k
outside_of span k never = ⊎_elim inl (λ low. ⊎_elim (λ high. absurd (never (low, high))) inr (split k span.to)) (split k span.from)

-- a byte among others that were written over
module _ (at : ℕ) (xs old : List ℕ) (room : at + length xs ≤ length old) (k : ℕ) where
  pub placed_before : k < at → get_or (placed at xs old) k 0 ≡ get_or old k 0
  placed_before h =
      sym (get_or-take at (placed at xs old) k 0 h) ∙ ap (λ l. get_or l k 0) (before_placed at xs old room) ∙ get_or-take at old k 0 h

  pub placed_behind : at + length xs ≤ k → get_or (placed at xs old) k 0 ≡ get_or old k 0
  placed_behind h =
      let n = at + length xs in
      let e : n + (k - n) ≡ k = omega arith in
      ap (λ j. get_or (placed at xs old) j 0) (sym e)
      ∙ sym (get_or-drop n (placed at xs old) (k - n) 0)
      ∙ ap (λ l. get_or l (k - n) 0) (behind_placed at xs old room)
      ∙ get_or-drop n old (k - n) 0
      ∙ ap (λ j. get_or old j 0) e

-- one among those written
pub placed_within : (at : ℕ) (xs old : List ℕ) → at + length xs ≤ length old → (k : ℕ) → k < length xs → get_or (placed at xs old) (at + k) 0 ≡ get_or xs k 0
placed_within at xs old room k h =
    sym (get_or-drop at (placed at xs old) k 0)
    ∙ ap (λ l. get_or l k 0) (here_placed at xs old room)
    ∙ get_or-append xs (drop (at + length xs) old) 0 k h

-- a range of other bytes
cut_size : (span : Span) (new : List ℕ) → span.from ≤ span.to → span.to ≤ length new → length (cut span new) ≡ span.to - span.from
cut_size span new low high = length-take-le (span.to - span.from) (drop span.from new) (omega (arith, length-drop span.from new))

-- where bytes are equal to the new ones outside of some ranges, those with the ranges are the new ones
pub pasted_is : (spans : List Span) (old new : List ℕ) → length new ≡ length old → AreWithin spans (length old)
    → ((k : ℕ) → (IsInside k spans → ⊥) → get_or new k 0 ≡ get_or old k 0) → pasted spans new old ≡ new
pasted_is [] old new len within same = same_number_lists old new (sym len) (λ k h. sym (same k (λ never. never)))
pasted_is (span ∷ spans) old new len within same =
    pasted_is spans (placed span.from (cut span new) old) new (len ∙ sym size) (subst (AreWithin spans) (sym size) within.1.1)
    (λ k outside. by k outside)
  where
    n : length (cut span new) ≡ span.to - span.from
    n = cut_size span new within.0 (omega (arith, len, within.1.0))

    room : span.from + length (cut span new) ≤ length old
    room = let low = within.0 in let high = within.1.0 in omega (arith, n)

    size : length (placed span.from (cut span new) old) ≡ length old
    size = length-placed span.from (cut span new) old room

    inner : (k : ℕ) → span.from ≤ k → k < span.to → get_or new k 0 ≡ get_or (placed span.from (cut span new) old) k 0
    inner k low high =
        let e : span.from + (k - span.from) ≡ k = omega arith in
        sym (ap (λ j. get_or (placed span.from (cut span new) old) j 0) (sym e)
        ∙ placed_within span.from (cut span new) old room (k - span.from) (omega (arith, n))
        ∙ get_or-take (span.to - span.from) (drop span.from new) (k - span.from) 0 (omega arith)
        ∙ get_or-drop span.from new (k - span.from) 0
        ∙ ap (λ j. get_or new j 0) e)

    outer : (k : ℕ) → (k < span.from) ⊎ (span.to ≤ k) → (IsInside k spans → ⊥) → get_or new k 0 ≡ get_or (placed span.from (cut span new) old) k 0
    outer k (inl low) outside =
        same k (λ inside. ⊎_elim (λ here. let a = here.0 in omega arith) outside inside)
        ∙ sym (placed_before span.from (cut span new) old room k low)
    outer k (inr high) outside =
        same k (λ inside. ⊎_elim (λ here. let b = here.1 in omega arith) outside inside)
        ∙ sym (placed_behind span.from (cut span new) old room k (let low = within.0 in omega (arith, n)))

    by : (k : ℕ) → (IsInside k spans → ⊥) → get_or new k 0 ≡ get_or (placed span.from (cut span new) old) k 0
    by k outside =
        ⊎_elim (λ low. outer k (inl low) outside)
        (λ low. ⊎_elim (λ high. inner k low high) (λ high. outer k (inr high) outside) (split k span.to)) (split k span.from)

module _ (state : RecordState) (key : Key) (k : ℕ) where
  abbrev Away : Live → Type 0
  Away live = stands_in state key live ≡ true → live.at + 2 ≢ k

  -- where none stands, none stands there
  vacuous : (ls : List Live) → list_any (stands_in state key) ls ≡ false → AllByRecursion Away ls
  vacuous [] h = tt
  vacuous (live ∷ ls) h = by (stands_in state key live) refl h (vacuous ls)
    where
      by : (b : Bool) → stands_in state key live ≡ b → (b || list_any (stands_in state key) ls) ≡ false
          → (list_any (stands_in state key) ls ≡ false → AllByRecursion Away ls) → AllByRecursion Away (live ∷ ls)
      by true e h rest = cc
      by false e h rest = (λ t. let no : false ≡ true = sym e ∙ t in cc, rest h)

  -- where one stands at most, and its state byte is elsewhere
  pub away_from : (ls : List Live) → count_by (stands_in state key) ls ≤ 1 → (IsInside k (state_span (first_in state key ls) ∷ []) → ⊥) → AllByRecursion Away ls
  away_from [] few outside = tt
  away_from (live ∷ ls) few outside = by (stands_in state key live) refl outside (away_from ls)
    where
      by : (b : Bool) → stands_in state key live ≡ b → (IsInside k (state_span (cond b (Some live) (first_in state key ls)) ∷ []) → ⊥)
          → (count_by (stands_in state key) ls ≤ 1 → (IsInside k (state_span (first_in state key ls) ∷ []) → ⊥) → AllByRecursion Away ls)
          → AllByRecursion Away (live ∷ ls)
      by true e outside rest =
          let one : count_by (stands_in state key) (live ∷ ls) ≡ 1 + count_by (stands_in state key) ls =
          count-cons (stands_in state key) live ls ∙ ap (λ b. cond b 1 0 + count_by (stands_in state key) ls) e in (
            λ t here. outside (inl (omega (arith, here), omega (arith, here))),
            vacuous ls (none_counted (stands_in state key) ls (omega (arith, one))),
          )
      by false e outside rest =
          let same : count_by (stands_in state key) (live ∷ ls) ≡ 0 + count_by (stands_in state key) ls =
          count-cons (stands_in state key) live ls ∙ ap (λ b. cond b 1 0 + count_by (stands_in state key) ls) e in
          (λ t. let no : false ≡ true = sym e ∙ t in cc, rest (omega (arith, same)) outside)

-- a key's records are elsewhere where those in either state are
pub apart_of : (key : Key) (k : ℕ) (ls : List Live) → AllByRecursion (Away Added key k) ls → AllByRecursion (Away InDeletedTransition key k) ls → IsApart key k ls
apart_of key k [] a t = tt
apart_of key k (live ∷ ls) a t = (λ mine. by mine (is_added_state live.state) refl, apart_of key k ls a.1 t.1)
  where
    by : is_of key live ≡ true → (b : Bool) → is_added_state live.state ≡ b → live.at + 2 ≢ k
    by mine true e = a.0 (ap (λ b. b && is_of key live) e ∙ mine)
    by mine false e = t.0 (ap (λ b. not b && is_of key live) e ∙ mine)
