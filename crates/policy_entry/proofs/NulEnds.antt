-- Names as bytes: they are read as their units, up to the NUL.
use Rattle.std.proofs.Common.{◌≡◌, ◌≢◌, ℕ, ◌+◌, ◌*◌, ◌/◌, ◌%◌, ◌<◌, ◌≤◌, Bool, true, false, cond, List, [], ◌∷◌, ◌++◌, length, take, Option, Some, None, Ok, Err, refl, sym, ap, ◌∙◌, arith, append_assoc, length-append, true≢false}
use Rattle.std.proofs.lemmas.Bool.{and_from, eq-eqb, le-leb, lt-ltb, ltb-false}
use Rattle.std.proofs.lemmas.List.{take_at}
use Rattle.std.proofs.lemmas.List.Elements.{recursion_from_All}
use Rattle.std.specs.List.{AllByRecursion, prefix_len}
use Rattle.std.specs.Prelude.{◌==◌, flat_map, nat_lt, not, position, if◌then◌else◌}
use Rattle.byteorder.specs.Endian.{little_bytes}
use Rattle.var_types.specs.Live.{units_in}
use Rattle.var_types.specs.Name.{name_check, nul_check}
use Rattle.var_types.specs.PolicyEntry.{IsNameOfUnits, is_name_length, nul_ended}
use Rattle.var_types.specs.declared.name.NameFault.TheVariants.{Empty, TooLong}

-- whether a unit is a NUL, and whether it isn't
abbrev pub is_nul : ℕ → Bool
is_nul unit = unit == 0

abbrev pub is_other : ℕ → Bool
is_other unit = not (is_nul unit)

-- a unit is its two bytes
unit_again : (unit : ℕ) → unit < 65536 → unit % 256 + 256 * (unit / 256 % 256) ≡ unit
unit_again unit h = omega arith

-- the bytes of units are read as these
units_again : (units more : List ℕ) → AllByRecursion (λ unit. unit < 65536) units → units_in (flat_map (little_bytes 2) units ++ more) ≡ units ++ units_in more
units_again [] more all = refl
units_again (unit ∷ units) more all = λ i. unit_again unit all.0 i ∷ units_again units more all.1 i

-- the first NUL is behind units that are none
first_nul : (units more : List ℕ) → AllByRecursion (λ u. is_nul u ≡ false) units → prefix_len is_other (units ++ 0 ∷ more) ≡ length units
first_nul [] more all = refl
first_nul (unit ∷ units) more all =
    ap (λ (b : Bool). cond (not b) (1 + prefix_len is_other (units ++ 0 ∷ more)) 0) all.0
    ∙ (let rest = first_nul units more all.1 in omega (arith, rest))

-- units before the first of which no place is a NUL are none
none_nul : (units : List ℕ) → length units ≤ prefix_len is_other units → AllByRecursion (λ u. is_nul u ≡ false) units
none_nul [] h = tt
none_nul (unit ∷ units) h = by (is_nul unit) refl (λ more. none_nul units more)
  where
    by : (b : Bool) → is_nul unit ≡ b → (length units ≤ prefix_len is_other units → AllByRecursion (λ u. is_nul u ≡ false) units)
        → AllByRecursion (λ u. is_nul u ≡ false) (unit ∷ units)
    by true is rest =
        let stops : prefix_len is_other (unit ∷ units) ≡ 0 = ap (λ (b : Bool). cond (not b) (1 + prefix_len is_other units) 0) is in
        absurd (omega (arith, h, stops))
    by false is rest =
        let goes : prefix_len is_other (unit ∷ units) ≡ 1 + prefix_len is_other units =
        ap (λ (b : Bool). cond (not b) (1 + prefix_len is_other units) 0) is in
        (is, rest (omega (arith, h, goes)))

-- what a well-formed name has
pub record IsNamed (units : List ℕ) : Type 0 where
  pub counted : is_name_length (length units) ≡ true
  pub others : AllByRecursion (λ u. is_nul u ≡ false) units

-- a check that finds nothing
unchecked : (empty long : Bool) (n : ℕ) (at : Option ℕ) → (if empty then Err Empty else if long then Err (TooLong n) else nul_check at) ≡ Ok tt
    → (empty ≡ false) × (long ≡ false) × (at ≡ None)
unchecked false false n None h = (refl, refl, refl)
unchecked true long n at h = cc
unchecked false true n at h = cc
unchecked false false n (Some k) h = cc

-- no place is found
unfound : (b : Bool) (n : ℕ) → cond b (Some n) None ≡ None → b ≡ false
unfound true n h = cc
unfound false n h = refl

pub named : (units : List ℕ) → name_check units ≡ Ok tt → IsNamed units
named units well =
    let parts = unchecked (length units == 0) (nat_lt 512 (length units)) (length units) (position is_nul units) well in
    let some : length units ≢ 0 = λ none. true≢false (sym (eq-eqb (length units) 0 none) ∙ parts.0) in
    let short : length units ≤ 512 = ltb-false 512 (length units) parts.1 in
    let past = unfound (nat_lt (prefix_len is_other units) (length units)) (prefix_len is_other units) parts.2 in
    record {
      counted = and_from _ _ (le-leb 1 (length units) (omega (arith, some))) (le-leb (length units) 512 short);
      others = none_nul units (ltb-false (prefix_len is_other units) (length units) past);
    }

-- the units before the NUL, and where it is
pub record IsRead (bytes units : List ℕ) : Type 0 where
  pub found : position is_nul (units_in bytes) ≡ Some (length units)
  pub taken : take (length units) (units_in bytes) ≡ units

-- a name with its NUL and more behind it is read as the name
pub name_again : (units more : List ℕ) → IsNameOfUnits units → IsRead (nul_ended units ++ more) units
name_again units more is =
    let words : units_in (nul_ended units ++ more) ≡ units ++ 0 ∷ units_in more =
    ap units_in (append_assoc (flat_map (little_bytes 2) units) (0 ∷ 0 ∷ []) more)
    ∙ units_again units (0 ∷ 0 ∷ more) (recursion_from_All (λ u. u < 65536) units is.1) in
    let stop : prefix_len is_other (units ++ 0 ∷ units_in more) ≡ length units = first_nul units (units_in more) (named units is.0).others in
    let within : nat_lt (length units) (length (units ++ 0 ∷ units_in more)) ≡ true =
    lt-ltb (length units) (length (units ++ 0 ∷ units_in more)) (omega (arith, length-append units (0 ∷ units_in more))) in
    record {
      found =
          ap (position is_nul) words
          ∙ ap (λ n. cond (nat_lt n (length (units ++ 0 ∷ units_in more))) (Some n) None) stop
          ∙ ap (λ (b : Bool). cond b (Some (length units)) None) within;
      taken = ap (take (length units)) words ∙ take_at units (0 ∷ units_in more) (length units) refl;
    }
