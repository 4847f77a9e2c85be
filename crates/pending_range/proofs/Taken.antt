-- Bytes with some taken from newer ones, byte by byte.
use Rattle.std.proofs.Common.{◌≡◌, ℕ, zero, suc, ◌+◌, ◌-◌, ◌≤◌, ◌<◌, ◌&&◌, Bool, true, false, cond, min, nat_le, nat_lt, List, [], ◌∷◌, ◌++◌, length, take, drop, get_or, refl, sym, ap, ◌∙◌, ⊎_elim, true≢false, arith, length-append, length-drop, length-take}
use Rattle.std.proofs.lemmas.Bool.{cases_lt, le-ltb, lt-leb}
use Rattle.std.proofs.lemmas.Grind.{same_number_lists}
use Rattle.std.proofs.lemmas.List.{get_or-append_right, get_or-drop, get_or-take, get_or_append_left}
use Rattle.pending_range.proofs.Covers.{within}
use Rattle.pending_range.specs.declared.range.Range.{Range}
use Rattle.pending_range.specs.Ranges.{is_within, taken, taken_from}

module _ (test : ℕ → Bool) where
  -- there are as many bytes as before
  pub length-taken_from : (at : ℕ) (new old : List ℕ) → length new ≡ length old → length (taken_from test at new old) ≡ length old
  length-taken_from at [] old same = refl
  length-taken_from at (n ∷ ns) [] same = refl
  length-taken_from at (n ∷ ns) (o ∷ os) same = let rest : length ns ≡ length os = omega arith in omega (arith, length-taken_from (suc at) ns os rest)

  -- each byte is the newer one where its offset passes
  pub get-taken_from : (at : ℕ) (new old : List ℕ) → length new ≡ length old → (k : ℕ) → k < length old
      → get_or (taken_from test at new old) k 0 ≡ cond (test (at + k)) (get_or new k 0) (get_or old k 0)
  get-taken_from at [] [] same k h = absurd (omega arith)
  get-taken_from at [] (o ∷ os) same k h = absurd (omega arith)
  get-taken_from at (n ∷ ns) [] same k h = absurd (omega arith)
  get-taken_from at (n ∷ ns) (o ∷ os) same zero h = by (test at) ∙ ap (λ (i : ℕ). cond (test i) n o) (let e : at ≡ at + 0 = omega arith in e)
    where
      by : (b : Bool) → cond b n o ≡ cond b n o
      by b = refl
  get-taken_from at (n ∷ ns) (o ∷ os) same (suc k) h =
      let rest : length ns ≡ length os = omega arith in
      let below : k < length os = omega arith in
      let e : suc at + k ≡ at + suc k = omega arith in
      get-taken_from (suc at) ns os rest k below ∙ ap (λ (i : ℕ). cond (test i) (get_or ns k 0) (get_or os k 0)) e

-- whether an offset is within a range, by its bounds
outside_below : (range : Range) (at : ℕ) → at < range.from → is_within range at ≡ false
outside_below range at h = ap (λ (b : Bool). b && nat_lt at range.to) (lt-leb range.from at h)

outside_above : (range : Range) (at : ℕ) → range.to ≤ at → is_within range at ≡ false
outside_above range at h = by (nat_le range.from at) (nat_lt at range.to) (le-ltb at range.to h)
  where
    by : (b c : Bool) → c ≡ false → (b && c) ≡ false
    by true c none = none
    by false c none = refl

module _ (range : Range) (new old : List ℕ) (same : length new ≡ length old) (from to : ℕ) (last : to ≡ min (length new) range.to) (first : from ≡ min to range.from) where
  -- the bytes before, within and behind what a range has
  abbrev copied : List ℕ
  copied = take from old ++ (take (to - from) (drop from new) ++ drop (to - from) (drop from old))

  -- how many each of them are
  length_before : length (take from old) ≡ from
  length_before = let few : from ≤ length old = omega arith in omega (arith, length-take from old)

  length_within : length (take (to - from) (drop from new)) ≡ to - from
  length_within = omega (arith, length-take (to - from) (drop from new), length-drop from new)

  length_behind : length (drop (to - from) (drop from old)) ≡ length old - to
  length_behind = omega (arith, length-drop (to - from) (drop from old), length-drop from old)

  length-copied : length copied ≡ length old
  length-copied =
      omega (
        arith,
        length_before,
        length_within,
        length_behind,
        length-append (take from old) (take (to - from) (drop from new) ++ drop (to - from) (drop from old)),
        length-append (take (to - from) (drop from new)) (drop (to - from) (drop from old)),
      )

  -- each byte
  get-copied : (k : ℕ) → k < length old → get_or copied k 0 ≡ cond (is_within range k) (get_or new k 0) (get_or old k 0)
  get-copied k h = ⊎_elim before (λ past. ⊎_elim (inside past) behind (cases_lt k to)) (cases_lt k from)
    where
      pick : (b : Bool) → is_within range k ≡ b → cond b (get_or new k 0) (get_or old k 0) ≡ cond (is_within range k) (get_or new k 0) (get_or old k 0)
      pick b e = ap (λ (c : Bool). cond c (get_or new k 0) (get_or old k 0)) (sym e)

      before : k < from → get_or copied k 0 ≡ cond (is_within range k) (get_or new k 0) (get_or old k 0)
      before p =
          let there : k < length (take from old) = omega (arith, length_before) in
          get_or_append_left (take from old) (take (to - from) (drop from new) ++ drop (to - from) (drop from old)) 0 k there
          ∙ get_or-take from old k 0 p
          ∙ pick false (outside_below range k (omega arith))

      inside : from ≤ k → k < to → get_or copied k 0 ≡ cond (is_within range k) (get_or new k 0) (get_or old k 0)
      inside p q =
          let there : k - from < length (take (to - from) (drop from new)) = omega (arith, length_within) in
          let inner : k - from < to - from = omega arith in
          let back : from + (k - from) ≡ k = omega arith in
          get_or-append_right (take from old) (take (to - from) (drop from new) ++ drop (to - from) (drop from old)) from k 0 length_before p
          ∙ get_or_append_left (take (to - from) (drop from new)) (drop (to - from) (drop from old)) 0 (k - from) there
          ∙ get_or-take (to - from) (drop from new) (k - from) 0 inner
          ∙ get_or-drop from new (k - from) 0
          ∙ ap (λ (i : ℕ). get_or new i 0) back
          ∙ pick true (within range k (omega arith) (omega arith))

      behind : to ≤ k → get_or copied k 0 ≡ cond (is_within range k) (get_or new k 0) (get_or old k 0)
      behind p =
          let past : from ≤ k = omega arith in
          let far : to - from ≤ k - from = omega arith in
          let back : from + (to - from + (k - from - (to - from))) ≡ k = omega arith in
          get_or-append_right (take from old) (take (to - from) (drop from new) ++ drop (to - from) (drop from old)) from k 0 length_before past
          ∙ get_or-append_right (take (to - from) (drop from new)) (drop (to - from) (drop from old)) (to - from) (k - from) 0 length_within far
          ∙ get_or-drop (to - from) (drop from old) (k - from - (to - from)) 0
          ∙ get_or-drop from old (to - from + (k - from - (to - from))) 0
          ∙ ap (λ (i : ℕ). get_or old i 0) back
          ∙ pick false (outside_above range k (omega arith))

  -- a copy of what a range has is that byte by byte
  pub taken_within : copied ≡ taken (is_within range) new old
  unfolding taken
  taken_within =
      same_number_lists copied (taken_from (is_within range) 0 new old) (length-copied ∙ sym (length-taken_from (is_within range) 0 new old same))
      (λ k h.
      let below : k < length old = omega (arith, length-copied) in
      let same_place : k ≡ 0 + k = omega arith in
      get-copied k below
      ∙ ap (λ (i : ℕ). cond (is_within range i) (get_or new k 0) (get_or old k 0)) same_place
      ∙ sym (get-taken_from (is_within range) 0 new old same k below))

-- bytes that are equal where none are taken are the newer ones, once the others were taken
pub taken_all : (test : ℕ → Bool) (new old : List ℕ) → length new ≡ length old
    → ((at : ℕ) → (test at ≡ true → ⊥) → get_or old at 0 ≡ get_or new at 0) → taken test new old ≡ new
unfolding taken
taken_all test new old same outside =
    same_number_lists (taken_from test 0 new old) new (length-taken_from test 0 new old same ∙ sym same)
    (λ k h.
    let below : k < length old = omega (arith, length-taken_from test 0 new old same) in
    let same_place : 0 + k ≡ k = omega arith in
    get-taken_from test 0 new old same k below
    ∙ ap (λ (i : ℕ). cond (test i) (get_or new k 0) (get_or old k 0)) same_place
    ∙ by k (test k) refl)
  where
    by : (k : ℕ) (b : Bool) → test k ≡ b → cond b (get_or new k 0) (get_or old k 0) ≡ get_or new k 0
    by k true e = refl
    by k false e = outside k (λ covered. true≢false (sym covered ∙ e))
