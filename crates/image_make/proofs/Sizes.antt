-- How long the lines of a script are.
use Rattle.std.proofs.Common.{◌≡◌, ℕ, ◌+◌, ◌-◌, ◌*◌, ◌/◌, ◌%◌, ◌<◌, ◌≤◌, zero, suc, Bool, true, false, List, [], ◌∷◌, ◌++◌, length, replicate, eqb, refl, ap, sym, subst, ◌∙◌, arith, length-append, if◌then◌else◌}
use Rattle.std.specs.Prelude.{◌==◌, nat_lt}
use Rattle.std.proofs.lemmas.Bool.{ltb-false, ltb-true, ne_eqb}
use Rattle.std.proofs.lemmas.Bool.Decides.{nat_tests}
use Rattle.std.proofs.lemmas.Fmt.{length-decimal-le}
use Rattle.std.proofs.lemmas.List.{length-replicate}
use Rattle.var_types.specs.Texts.{attributes_text, bytes_text, is_plain, name_text, unit_text}
use Rattle.var_types.proofs.Guids.{length-guid_text}
use Rattle.script_text.specs.Texts.{call_text}
use Rattle.script_text.proofs.HexTexts.{length-encode_lower}
use Rattle.image_make.specs.Generated.{first_calls, generated_call, get_at, global_variable, line_text, lines_text, next_from_front, numbered_name, set_at}
use Rattle.image_make.proofs.Fronts.{first_calls-zero, lines_text-first_calls, lines_text-nil}

-- a digit stands for itself
unit_text-digit : (d : ℕ) → d < 10 → unit_text (48 + d) ≡ (48 + d) ∷ []
unfolding unit_text
unit_text-digit d small = let plain : is_plain (48 + d) ≡ true = grind (arith, nat_tests) in rw plain refl

unit_text-letter : unit_text 86 ≡ 86 ∷ []
unfolding unit_text
unit_text-letter = refl

-- the text of a name of three units that stand for themselves
length-name_text : (n : ℕ) → n < 64 → length (name_text (numbered_name n)) ≡ 3
unfolding name_text
length-name_text n small = rw (unit_text-letter, unit_text-digit (n / 10) (omega arith), unit_text-digit (n % 10) (omega arith)) refl

-- eight digits
length-attributes_text : length (attributes_text 7) ≡ 10
unfolding attributes_text
length-attributes_text = omega (arith, length-encode_lower)

-- at most 200 bytes
length-bytes_text : (n b : ℕ) → n < 200 → length (bytes_text (replicate (1 + n) b)) ≤ 400
unfolding bytes_text
length-bytes_text n b small =
    let count : length (replicate (1 + n) b) ≡ 1 + n = length-replicate (1 + n) b in
    let longer : eqb (length (replicate (1 + n) b)) 0 ≡ false = ne_eqb _ _ (λ e. omega arith) in
    rw longer (omega (arith, length-encode_lower (replicate (1 + n) b), count))

-- the lines of each turn
length-set_at : (number index : ℕ) → length (line_text (set_at number index)) ≤ 459
unfolding call_text
length-set_at number index =
    simp length-append (omega (
      arith,
      length-guid_text global_variable,
      length-name_text ((index + number) % 64) (omega arith),
      length-attributes_text,
      length-bytes_text (index % 200) ((index + number) % 256) (omega arith),
    ))

length-get_at : (number index : ℕ) → length (line_text (get_at number index)) ≤ 51
unfolding call_text
length-get_at number index =
    simp length-append (omega (
      arith,
      length-guid_text global_variable,
      length-name_text ((index - 1 + number) % 64) (omega arith),
      length-decimal-le 3 256 (omega arith) (omega arith) (omega arith),
    ))

length-next : length (line_text next_from_front) ≤ 51
unfolding call_text name_text
length-next = simp length-append (omega (arith, length-guid_text global_variable, length-decimal-le 2 64 (omega arith) (omega arith) (omega arith)))

-- the line of a turn: two of four are sets
length-turns : (number index : ℕ) (set get : Bool)
    → length (line_text (if set then set_at number index else if get then get_at number index else next_from_front)) ≤ (if set then 459 else 51)
length-turns number index true get = length-set_at number index
length-turns number index false true = length-get_at number index
length-turns number index false false = length-next

-- the line of a call, by its turn
length-generated_call : (number index : ℕ) → length (line_text (generated_call number index)) ≤ (if nat_lt (index % 4) 2 then 459 else 51)
unfolding generated_call
length-generated_call number index = length-turns number index (nat_lt (index % 4) 2) (index % 4 == 2)

-- four lines have at most 1,020 bytes, of which the two sets have most
pub record AreShort (count : ℕ) (text : List ℕ) : Type 0 where
  pub rising : length text ≤ 255 * count + 204 * (count % 4)
  pub falling : length text + 204 * (count % 4) ≤ 255 * count + 816

-- one line more
one_more : (count : ℕ) (text line : List ℕ) (set : Bool) → nat_lt (count % 4) 2 ≡ set → AreShort count text → length line ≤ (if set then 459 else 51)
    → AreShort (count + 1) (text ++ line)
one_more count text line true turn short fits =
    let low : count % 4 < 2 = ltb-true (count % 4) 2 turn in record {
      rising = omega (arith, short.rising, short.falling, length-append text line);
      falling = omega (arith, short.rising, short.falling, length-append text line);
    }
one_more count text line false turn short fits =
    let high : 2 ≤ count % 4 = ltb-false (count % 4) 2 turn in record {
      rising = omega (arith, short.rising, short.falling, length-append text line);
      falling = omega (arith, short.rising, short.falling, length-append text line);
    }

-- the lines of the first calls
pub are_short : (number count : ℕ) → AreShort count (lines_text (first_calls number count))
are_short number zero =
    subst (AreShort 0) (sym (ap lines_text (first_calls-zero number) ∙ lines_text-nil)) (record { rising = omega arith; falling = omega arith })
are_short number (suc count) =
    let text : List ℕ = lines_text (first_calls number count) in
    let line : List ℕ = line_text (generated_call number count) in
    let more : AreShort (count + 1) (text ++ line) =
    one_more count text line (nat_lt (count % 4) 2) refl (are_short number count) (length-generated_call number count) in
    let next : count + 1 ≡ suc count = omega arith in
    subst (λ (n : ℕ). AreShort n (lines_text (first_calls number n))) next (subst (AreShort (count + 1)) (lines_text-first_calls number count) more)
