-- The first line of a text, found by the first byte that may not stand in a line.
use Rattle.std.proofs.Common.{◌≡◌, ◌≢◌, ◌⊎◌, ℕ, ◌+◌, ◌-◌, ◌<◌, ◌≤◌, Bool, true, false, ◌&&◌, cond, ltb, eqb, List, [], ◌∷◌, ◌++◌, length, get_or, All, take, drop, refl, sym, ap, ◌∙◌, subst, inl, inr, ⊎_elim, append_assoc, length-append, arith}
use Rattle.std.proofs.lemmas.Grind.{common_steps}
use Rattle.std.specs.Prelude.{not, position, Some, None}
use Rattle.std.specs.List.{list_all, slice_split, position_or_len}
use Rattle.std.specs.Str.Lines.{lines, lines_of_parts, strip_carriage_return}
use Rattle.std.proofs.lemmas.Bool.{and_from, cases_Bool, cases_eq, eq-eqb, eqb-true, ltb-false, ltb-true, ne_eqb}
use Rattle.std.proofs.lemmas.Bool.Decides.{nat_tests}
use Rattle.std.proofs.lemmas.List.{drop_more, get_or-drop, length-drop, take_all}
use Rattle.std.proofs.lemmas.List.Elements.{All-append, All-cons, All-head, All-nil, All-push, All-tail}
use Rattle.std.proofs.lemmas.List.Folds.{list_all-append}
use Rattle.std.proofs.lemmas.List.Sums.{fails_before_first, passes_at_first, split_at_first}
use Rattle.std.proofs.lemmas.List.Splits.{slice_split_at, slice_split_none, length-slice_split}
use Rattle.script_text.specs.FirstLine.{HasBadLine, IsFirstLine, is_other}
use Rattle.script_text.specs.Lines.{is_comment, is_text, is_text_byte}
use Rattle.script_text.proofs.LineLemmas.{is_feed, lines-one_line, missing, found, more_parts, no_feeds, strip_none}

-- a text before the first byte that passes a test, and that byte
pub record Parted (p : ℕ → Bool) (text : List ℕ) : Type 0 where
  pub front : List ℕ
  pub byte : ℕ
  pub rest : List ℕ
  pub whole : text ≡ front ++ byte ∷ rest
  pub fails : All (λ c. p c ≡ false) front
  pub passes : p byte ≡ true

-- a text has such a byte, or has none
pub parted : (p : ℕ → Bool) (text : List ℕ) → Parted p text ⊎ All (λ c. p c ≡ false) text
parted p [] = inr (All-nil (λ c. p c ≡ false))
parted p (c ∷ cs) =
    elim (cases_Bool (p c)) [
      | inl here ↦ inl (record { front = []; byte = c; rest = cs; whole = refl; fails = All-nil (λ x. p x ≡ false); passes = here })
      | inr other ↦ ⊎_elim
          (λ (behind : Parted p cs). inl (record {
            front = c ∷ behind.front;
            byte = behind.byte;
            rest = behind.rest;
            whole = ap (λ (t : List ℕ). c ∷ t) behind.whole;
            fails = All-cons (λ x. p x ≡ false) c behind.front other behind.fails;
            passes = behind.passes;
          }))
          (λ none. inr (All-cons (λ x. p x ≡ false) c cs other none))
          (parted p cs)
    ]

-- the last carriage return goes, and another last character stays
strip_return : (xs : List ℕ) → strip_carriage_return (xs ++ 13 ∷ []) ≡ xs
strip_return xs =
    let l : List ℕ = xs ++ 13 ∷ [] in
    let last : get_or l (length l - 1) 0 ≡ 13 = grind (arith, common_steps) in
    let front : take (length l - 1) l ≡ xs = grind (arith, common_steps) in
    ap (λ t. cond t (take (length l - 1) l) l) (eq-eqb _ 13 last) ∙ front

strip_other : (xs : List ℕ) (c : ℕ) → c ≢ 13 → strip_carriage_return (xs ++ c ∷ []) ≡ xs ++ c ∷ []
strip_other xs c other =
    let l : List ℕ = xs ++ c ∷ [] in
    let last : get_or l (length l - 1) 0 ≡ c = grind (arith, common_steps) in
    ap (λ t. cond t (take (length l - 1) l) l) (ne_eqb _ 13 (λ e. other (sym last ∙ e)))

-- a text that isn't empty is a front and its last character
pub record Ended (text : List ℕ) : Type 0 where
  pub front : List ℕ
  pub last : ℕ
  pub whole : text ≡ front ++ last ∷ []

ended : (c : ℕ) (cs : List ℕ) → Ended (c ∷ cs)
ended c [] = record { front = []; last = c; whole = refl }
ended c (x ∷ cs) =
    let behind : Ended (x ∷ cs) = ended x cs in
    record { front = c ∷ behind.front; last = behind.last; whole = ap (λ (t : List ℕ). c ∷ t) behind.whole }

-- a line feed behind characters that are none ends a line
feed_ends : (front rest : List ℕ) → All (λ c. is_feed c ≡ false) front → lines (front ++ 10 ∷ rest) ≡ strip_carriage_return front ∷ lines rest
feed_ends front rest none =
    ap lines_of_parts (slice_split_at is_feed front 10 rest none refl)
    ∙ more_parts front (slice_split is_feed rest) (omega (arith, length-slice_split is_feed rest))

-- a byte that may stand in a line is no carriage return
no_return : (c : ℕ) → is_text_byte c ≡ true → c ≢ 13
no_return c h e = grind (arith, nat_tests)

-- the characters of a line, its feed, and the rest
pub feed_line : (front rest : List ℕ) → is_text front ≡ true → lines (front ++ 10 ∷ rest) ≡ front ∷ lines rest
feed_line [] rest text = feed_ends [] rest (All-nil (λ c. is_feed c ≡ false))
feed_line (c ∷ cs) rest text =
    feed_ends (c ∷ cs) rest (no_feeds (c ∷ cs) text) ∙ ap (λ (l : List ℕ). l ∷ lines rest) (strip_none (c ∷ cs) (omega arith) text)

-- with a carriage return before the feed
pub return_line : (front rest : List ℕ) → is_text front ≡ true → lines (front ++ 13 ∷ 10 ∷ rest) ≡ front ∷ lines rest
return_line front rest text =
    ap lines (sym (append_assoc front (13 ∷ []) (10 ∷ rest)))
    ∙ feed_ends (front ++ 13 ∷ []) rest (All-push (λ c. is_feed c ≡ false) front 13 (no_feeds front text) refl)
    ∙ ap (λ (l : List ℕ). l ∷ lines rest) (strip_return front)

-- a byte with another behind it stays, and one that is no carriage return
stays : (front rest : List ℕ) (byte : ℕ) → (rest ≡ [] → byte ≢ 13) → (kept : List ℕ) × (strip_carriage_return (front ++ byte ∷ rest) ≡ front ++ byte ∷ kept)
stays front [] byte last = ([], strip_other front byte (last refl))
stays front (x ∷ xs) byte last =
    let end : Ended (x ∷ xs) = ended x xs in
    let before : List ℕ = front ++ byte ∷ end.front in
    let whole : front ++ byte ∷ x ∷ xs ≡ before ++ end.last ∷ [] =
    ap (λ (t : List ℕ). front ++ byte ∷ t) end.whole ∙ sym (append_assoc front (byte ∷ end.front) (end.last ∷ [])) in
    ⊎_elim
    (λ (is : end.last ≡ 13). (
      end.front,
      ap strip_carriage_return whole ∙ ap (λ (c : ℕ). strip_carriage_return (before ++ c ∷ [])) is ∙ strip_return before,
    ))
    (λ (other : end.last ≢ 13). (x ∷ xs, ap strip_carriage_return whole ∙ strip_other before end.last other ∙ sym whole))
    (cases_eq end.last 13)

-- what begins with such a byte is no text, and no comment where the text is none
no_text : (front rest : List ℕ) (byte : ℕ) → is_text_byte byte ≡ false → is_text front ≡ true → is_text (front ++ byte ∷ rest) ≡ false
no_text front rest byte bad text =
    list_all-append is_text_byte front (byte ∷ rest)
    ∙ ap (λ (b : Bool). b && list_all is_text_byte (byte ∷ rest)) text
    ∙ ap (λ (b : Bool). b && list_all is_text_byte rest) bad

same_first : (front kept rest : List ℕ) (byte : ℕ) → is_comment (front ++ byte ∷ kept) ≡ is_comment (front ++ byte ∷ rest)
same_first [] kept rest byte = refl
same_first (c ∷ cs) kept rest byte = refl

module _ (front rest : List ℕ) (byte : ℕ) (bad : is_text_byte byte ≡ false) (other : byte ≢ 10) (text : is_text front ≡ true)
    (comment : is_comment (front ++ byte ∷ rest) ≡ false) where
  -- a line that ends behind such a byte
  bad_ended : (behind later : List ℕ) → rest ≡ behind ++ 10 ∷ later → All (λ c. is_feed c ≡ false) behind → (behind ≡ [] → byte ≢ 13)
      → HasBadLine (front ++ byte ∷ rest)
  bad_ended behind later is none last =
      let kept = stays front behind byte last in
      let line : List ℕ = front ++ byte ∷ kept.0 in
      let feeds : All (λ c. is_feed c ≡ false) (front ++ byte ∷ behind) =
      All-append (λ c. is_feed c ≡ false) front (byte ∷ behind) (no_feeds front text) (All-cons (λ c. is_feed c ≡ false) byte behind (ne_eqb byte 10 other) none) in (
        line,
        lines later,
        ap (λ (t : List ℕ). lines (front ++ byte ∷ t)) is ∙ ap lines (sym (append_assoc front (byte ∷ behind) (10 ∷ later)))
            ∙ feed_ends (front ++ byte ∷ behind) later feeds ∙ ap (λ (l : List ℕ). l ∷ lines later) kept.1,
        same_first front kept.0 rest byte ∙ comment,
        no_text front kept.0 byte bad text,
      )

  -- or doesn't end
  bad_last : All (λ c. is_feed c ≡ false) rest → HasBadLine (front ++ byte ∷ rest)
  bad_last none =
      let whole : List ℕ = front ++ byte ∷ rest in
      let feeds : All (λ c. is_feed c ≡ false) whole =
      All-append (λ c. is_feed c ≡ false) front (byte ∷ rest) (no_feeds front text) (All-cons (λ c. is_feed c ≡ false) byte rest (ne_eqb byte 10 other) none) in
      let longer : eqb (length whole) 0 ≡ false = ne_eqb _ _ (λ e. omega (arith, e, length-append front (byte ∷ rest))) in
      (whole, [], ap lines_of_parts (slice_split_none is_feed whole feeds) ∙ rw longer refl, comment, no_text front rest byte bad text)

  -- a byte that may not stand in a line, and doesn't end it with the byte behind it
  pub bad_line : (byte ≡ 13 → (more : List ℕ) → rest ≢ 10 ∷ more) → HasBadLine (front ++ byte ∷ rest)
  bad_line unended =
      ⊎_elim
      (λ (p : Parted is_feed rest).
      let is : rest ≡ p.front ++ 10 ∷ p.rest = p.whole ∙ ap (λ (c : ℕ). p.front ++ c ∷ p.rest) (eqb-true p.byte 10 p.passes) in
      bad_ended p.front p.rest is p.fails (λ none e. unended e p.rest (is ∙ ap (λ (t : List ℕ). t ++ 10 ∷ p.rest) none)))
      (λ none. bad_last none)
      (parted is_feed rest)

-- bytes that are no others are text
text_of : (xs : List ℕ) → All (λ c. is_other c ≡ false) xs → is_text xs ≡ true
text_of [] h = refl
text_of (c ∷ cs) h =
    and_from (is_text_byte c) (is_text cs) (unless (is_text_byte c) (All-head (λ x. is_other x ≡ false) c cs h))
    (text_of cs (All-tail (λ x. is_other x ≡ false) c cs h))
  where
    unless : (b : Bool) → not b ≡ false → b ≡ true
    unless true e = refl
    unless false e = cc

-- an other byte may not stand in a line
other_byte : (b : Bool) → not b ≡ true → b ≡ false
other_byte true e = cc
other_byte false e = refl

-- a comment's first line is a comment
comment_ended : (front rest line : List ℕ) (later : List (List ℕ)) → All (λ c. is_feed c ≡ false) front → is_comment (front ++ 10 ∷ rest) ≡ true
    → lines (front ++ 10 ∷ rest) ≡ line ∷ later → is_comment line ≡ true
comment_ended [] rest line later none comment is = cc
comment_ended (c ∷ cs) rest line later none comment is =
    let hash : c ≡ 35 = eqb-true c 35 comment in
    let kept = stays [] cs c (λ last e. omega (arith, hash, e)) in
    let first : line ≡ strip_carriage_return (c ∷ cs) = ap (λ (ls : List (List ℕ)). get_or ls 0 []) (sym is ∙ feed_ends (c ∷ cs) rest none) in
    ap is_comment (first ∙ kept.1) ∙ comment

pub comment_line : (text line : List ℕ) (later : List (List ℕ)) → 0 < length text → is_comment text ≡ true → lines text ≡ line ∷ later
    → is_comment line ≡ true
comment_line text line later some comment is =
    ⊎_elim
    (λ (p : Parted is_feed text).
    let whole : text ≡ p.front ++ 10 ∷ p.rest = p.whole ∙ ap (λ (c : ℕ). p.front ++ c ∷ p.rest) (eqb-true p.byte 10 p.passes) in
    comment_ended p.front p.rest line later p.fails (ap is_comment (sym whole) ∙ comment) (ap lines (sym whole) ∙ is))
    (λ none.
    let longer : eqb (length text) 0 ≡ false = ne_eqb _ _ (λ e. omega (arith, e, some)) in
    let one : lines text ≡ text ∷ [] = ap lines_of_parts (slice_split_none is_feed text none) ∙ rw longer refl in
    ap (λ (ls : List (List ℕ)). is_comment (get_or ls 0 [])) (sym is ∙ one) ∙ comment)
    (parted is_feed text)

-- a text of which no byte is another is its own first line
pub whole_line : (text : List ℕ) → 0 < length text → None ≡ position is_other text → IsFirstLine text text []
whole_line text some none =
    let past : length text ≤ position_or_len is_other text =
    ltb-false _ _ (missing (ltb (position_or_len is_other text) (length text)) (position_or_len is_other text) none) in
    let read : is_text text ≡ true = text_of text (λ k d within. fails_before_first is_other text k d (omega arith)) in
    record { lines = lines-one_line text some read; read = λ e. read; shorter = some }

-- a text at its first other byte
module _ (text : List ℕ) (at : ℕ) (place : Some at ≡ position is_other text) where
  here : (ltb (position_or_len is_other text) (length text) ≡ true) × (at ≡ position_or_len is_other text)
  here = found (ltb (position_or_len is_other text) (length text)) (position_or_len is_other text) at place

  within : position_or_len is_other text < length text
  within = ltb-true _ _ here.0

  parts : text ≡ take at text ++ get_or text at 0 ∷ drop (at + 1) text
  parts =
      split_at_first is_other text 0 within ∙ ap (λ (n : ℕ). take n text ++ get_or text n 0 ∷ drop (n + 1) text) (sym here.1)

  front : is_text (take at text) ≡ true
  front = text_of (take at text)
      (λ k d m. let fails = fails_before_first is_other text k d (grind (arith, common_steps)) in grind (arith, common_steps))

  byte : is_text_byte (get_or text at 0) ≡ false
  byte = other_byte _ (subst (λ (n : ℕ). is_other (get_or text n 0) ≡ true) (sym here.1) (passes_at_first is_other text 0 within))

  -- it is the line's end, with the carriage return before that, or it is bad
  pub at_feed : get_or text at 0 ≡ 10 → IsFirstLine text (take at text) (take (length text - (at + 1)) (drop (at + 1) text))
  at_feed feed =
      let rest : take (length text - (at + 1)) (drop (at + 1) text) ≡ drop (at + 1) text = take_all _ _ (omega (arith, length-drop (at + 1) text)) in
      subst (IsFirstLine text (take at text)) (sym rest) (record {
        lines = ap lines (parts ∙ ap (λ (c : ℕ). take at text ++ c ∷ drop (at + 1) text) feed) ∙ feed_line (take at text) (drop (at + 1) text) front;
        read = λ other. front;
        shorter = omega (arith, length-drop (at + 1) text, within);
      })

  pub at_return : get_or text at 0 ≡ 13 → at + 1 < length text → get_or text (at + 1) 0 ≡ 10
      → IsFirstLine text (take at text) (take (length text - (at + 2)) (drop (at + 2) text))
  at_return return more feed =
      let rest : take (length text - (at + 2)) (drop (at + 2) text) ≡ drop (at + 2) text = take_all _ _ (omega (arith, length-drop (at + 2) text)) in
      let behind : drop (at + 1) text ≡ 10 ∷ drop (at + 2) text =
      drop_more text (at + 1) 0 more ∙ ap (λ (c : ℕ). c ∷ drop (at + 1 + 1) text) feed ∙ ap (λ (n : ℕ). 10 ∷ drop n text) (omega arith) in
      subst (IsFirstLine text (take at text)) (sym rest) (record {
        lines = ap lines (parts ∙ ap (λ (c : ℕ). take at text ++ c ∷ drop (at + 1) text) return ∙ ap (λ (t : List ℕ). take at text ++ 13 ∷ t) behind)
            ∙ return_line (take at text) (drop (at + 2) text) front;
        read = λ other. front;
        shorter = omega (arith, length-drop (at + 2) text, within);
      })

  pub at_bad : is_comment text ≡ false → get_or text at 0 ≢ 10 → ((get_or text at 0 ≡ 13) × (at + 1 < length text) × (get_or text (at + 1) 0 ≡ 10) → ⊥)
      → HasBadLine text
  at_bad comment other unended =
      subst HasBadLine (sym parts)
      (bad_line (take at text) (drop (at + 1) text) (get_or text at 0) byte other front (ap is_comment (sym parts) ∙ comment)
      (λ return more is.
      let count : length (drop (at + 1) text) ≡ length (10 ∷ more) = ap length is in
      let longer : at + 1 < length text = omega (arith, count, length-drop (at + 1) text) in
      let feed : get_or text (at + 1) 0 ≡ 10 = ap (λ (n : ℕ). get_or text n 0) (omega arith) ∙ sym (get_or-drop (at + 1) text 0 0) ∙ ap (λ (t : List ℕ). get_or t 0 0) is in
      unended (return, longer, feed)))
