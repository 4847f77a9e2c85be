-- Reading digits one after the other gives the number that they stand for.
use Rattle.std.proofs.Common.{◌≡◌, ℕ, ◌+◌, ◌*◌, ◌^◌, ◌<◌, ◌≤◌, Bool, true, false, ◌&&◌, cond, ltb, eqb, List, [], ◌∷◌, length, fold, Option, Some, None, Result, Ok, Err, refl, sym, ap, ◌∙◌, inl, inr, arith}
use Rattle.std.specs.List.{list_all}
use Rattle.std.specs.Option.{is_some, unwrap_or}
use Rattle.std.proofs.lemmas.Bool.{cases_Bool, ltb-false, lt-ltb, le-ltb, ltb-true, and_right, ne_eqb}
use Rattle.std.proofs.Math.Nat.{mul-le-mul_left}
use Rattle.hex.specs.Hex.{hex_digit_value}
use Rattle.script_text.specs.declared.numbers.Base.{Base}
use Rattle.script_text.specs.declared.numbers.Base.TheVariants.{Decimal, Hexadecimal}
use Rattle.script_text.specs.declared.line_reason.LineReason.{LineReason}
use Rattle.script_text.specs.declared.line_reason.LineReason.TheVariants as reason
use Rattle.script_text.specs.Digits.{base_number, digit_in, is_digit_in, digit_value_in, number_from}
use Rattle.script_text.specs.Numbers.{number_in}

option_is : (o : Option ℕ) → o ≡ cond (is_some o) (Some (unwrap_or o 0)) None
option_is None = refl
option_is (Some n) = refl

-- a digit is one by the test, with the value
digit_in-is : (base : Base) (c : ℕ) → digit_in base c ≡ cond (is_digit_in base c) (Some (digit_value_in base c)) None
digit_in-is Decimal c = refl
digit_in-is Hexadecimal c = option_is (hex_digit_value c)

-- a number and one digit more
abbrev more : Base → ℕ → ℕ → ℕ
more base n c = n * base_number base + digit_value_in base c

base_number-positive : (base : Base) → 1 ≤ base_number base
base_number-positive Decimal = omega arith
base_number-positive Hexadecimal = omega arith

more_grows : (base : Base) (n c : ℕ) → n ≤ more base n c
more_grows base n c = omega (arith, mul-le-mul_left n (base_number-positive base))

-- more digits never make less
fold_grows : (base : Base) (n : ℕ) (cs : List ℕ) → n ≤ fold (more base) n cs
fold_grows base n [] = omega arith
fold_grows base n (c ∷ cs) = omega (arith, more_grows base n c, fold_grows base (more base n c) cs)

-- the number of digits behind a number, if it is below 2^32
abbrev total : Base → ℕ → List ℕ → Option ℕ
total base n cs = cond (list_all (is_digit_in base) cs && ltb (fold (more base) n cs) (2 ^ 32)) (Some (fold (more base) n cs)) None

too_large : (base : Base) (n : ℕ) (cs : List ℕ) → 2 ^ 32 ≤ n → total base n cs ≡ None
too_large base n cs h =
    let large : ltb (fold (more base) n cs) (2 ^ 32) ≡ false = le-ltb _ _ (omega (arith, fold_grows base n cs)) in
    rw (large, and_right (list_all (is_digit_in base) cs) false refl) refl

number_from-is : (base : Base) (n : ℕ) (cs : List ℕ) → n < 2 ^ 32 → number_from base n cs ≡ total base n cs
number_from-is base n [] h = rw (lt-ltb n (2 ^ 32) h) refl
number_from-is base n (c ∷ cs) h =
    elim (cases_Bool (is_digit_in base c)) [
      | inl digit ↦ elim (cases_Bool (ltb (more base n c) (2 ^ 32))) [
        | inl small ↦ rw (digit_in-is base c, digit, small) (number_from-is base (more base n c) cs (ltb-true _ _ small))
        | inr large ↦ rw (digit_in-is base c, digit, large) (sym (too_large base (more base n c) cs (ltb-false _ _ large)))
      ]
      | inr other ↦ rw (digit_in-is base c, other) refl
    ]

-- a number that was read, or the reason why there is none
abbrev pub number_read : Option ℕ → Result ℕ LineReason
number_read None = Err reason.Number
number_read (Some n) = Ok n

read_if : (b : Bool) (n : ℕ) → number_read (cond b (Some n) None) ≡ cond b (Ok n) (Err reason.Number)
read_if true n = refl
read_if false n = refl

-- what the digits say as a whole is what reading them one by one gives
pub number_in-is : (base : Base) (cs : List ℕ) → number_in (base_number base) (is_digit_in base) (digit_value_in base) cs ≡ cond (eqb (length cs) 0) (Err reason.Number) (number_read (number_from base 0 cs))
unfolding number_in
number_in-is base [] = refl
number_in-is base (c ∷ cs) =
    let read : number_read (number_from base 0 (c ∷ cs)) ≡ number_read (total base 0 (c ∷ cs)) = ap number_read (number_from-is base 0 (c ∷ cs) (omega arith)) in
    let whole = read_if (list_all (is_digit_in base) (c ∷ cs) && ltb (fold (more base) 0 (c ∷ cs)) (2 ^ 32)) (fold (more base) 0 (c ∷ cs)) in
    let longer : eqb (length (c ∷ cs)) 0 ≡ false = ne_eqb _ _ (λ e. omega arith) in
    rw longer (sym (read ∙ whole))
