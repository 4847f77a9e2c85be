-- Names as bytes: how many units they have, the NUL at their end, and when they are well-formed.
use Rattle.std.proofs.Common.{◌≡◌, ℕ, not, suc, ◌+◌, ◌*◌, ◌-◌, ◌/◌, ◌%◌, ◌<◌, ◌≤◌, ◌==◌, ◌||◌, Bool, true, false, cond, List, [], ◌∷◌, ◌++◌, length, take, drop, get_or, nat_lt, ltb, option_map, Some, None, refl, sym, ap, ◌∙◌, arith, length-append, length-take, drop-cons, take-append-drop, drop_of_length-le, Err}
use Rattle.std.proofs.lemmas.Bool.{lt-ltb}
use Rattle.std.proofs.lemmas.Bool.Decides.{nat_tests}
use Rattle.std.specs.List.{list_any, position_or_len}
use Rattle.var_types.specs.Layout.{longest_name}
use Rattle.var_types.specs.Live.{before_nul, if_named, units_in, well_formed}
use Rattle.var_types.specs.Name.{nul_check}
use Rattle.var_types.specs.declared.name.NameFault.TheVariants.{Empty, TooLong}
use Rattle.var_region.specs.Names.{is_nul}

-- two bytes are a unit
pub length_units : (bs : List ℕ) → length (units_in bs) ≡ length bs / 2
length_units [] = refl
length_units (a ∷ []) = refl
length_units (a ∷ b ∷ rest) = omega (arith, length_units rest)

-- the units before a NUL at the end of some that don't end at the first
before_nul_behind : (unit : ℕ) (units : List ℕ) → 1 ≤ length units → before_nul (unit ∷ units) ≡ option_map (λ rest. unit ∷ rest) (before_nul units)
before_nul_behind unit [] h = absurd (omega arith)
before_nul_behind unit (u ∷ us) h = refl

-- the units before a last one
before_last : (front : List ℕ) (low high : ℕ) → length front % 2 ≡ 0
    → before_nul (units_in (front ++ low ∷ high ∷ [])) ≡ cond (low + 256 * high == 0) (Some (units_in front)) None
before_last [] low high even = refl
before_last (a ∷ []) low high even = absurd (omega arith)
before_last (a ∷ b ∷ rest) low high even =
    before_nul_behind (a + 256 * b) (units_in (rest ++ low ∷ high ∷ []))
    (omega (arith, length_units (rest ++ low ∷ high ∷ []), length-append rest (low ∷ high ∷ [])))
    ∙ ap (option_map (λ more. (a + 256 * b) ∷ more)) (before_last rest low high (omega arith))
    ∙ by (low + 256 * high == 0)
  where
    by : (t : Bool) → option_map (λ more. (a + 256 * b) ∷ more) (cond t (Some (units_in rest)) None) ≡ cond t (Some ((a + 256 * b) ∷ units_in rest)) None
    by true = refl
    by false = refl

-- bytes are those before the last two, and these
last_two : (bs : List ℕ) (m : ℕ) → length bs ≡ m + 2 → bs ≡ take m bs ++ get_or bs m 0 ∷ get_or bs (m + 1) 0 ∷ []
last_two bs m h =
    let next : suc m ≡ m + 1 = omega arith in
    let first : drop m bs ≡ get_or bs m 0 ∷ drop (m + 1) bs = drop-cons bs m 0 (omega arith) ∙ ap (λ n. get_or bs m 0 ∷ drop n bs) next in
    let second : drop (m + 1) bs ≡ get_or bs (m + 1) 0 ∷ drop (suc (m + 1)) bs = drop-cons bs (m + 1) 0 (omega arith) in
    let none : drop (suc (m + 1)) bs ≡ [] = drop_of_length-le bs {i = suc (m + 1)} (omega arith) in
    sym (take-append-drop m bs) ∙ ap (λ rest. take m bs ++ rest) (first ∙ ap (λ rest. get_or bs m 0 ∷ rest) (second ∙ ap (λ rest. get_or bs (m + 1) 0 ∷ rest) none))

-- the units before a NUL at the end of bytes
pub before_nul_is : (bs : List ℕ) → length bs % 2 ≡ 0 → 2 ≤ length bs
    → before_nul (units_in bs)
    ≡ cond (get_or bs (length bs - 2) 0 + 256 * get_or bs (length bs - 1) 0 == 0) (Some (units_in (take (length bs - 2) bs))) None
before_nul_is bs even two =
    let m = length bs - 2 in
    let last : m + 1 ≡ length bs - 1 = omega arith in
    ap (λ all. before_nul (units_in all)) (last_two bs (length bs - 2) (omega arith))
    ∙ before_last (take (length bs - 2) bs) (get_or bs (length bs - 2) 0) (get_or bs (length bs - 2 + 1) 0) (omega (arith, length-take (length bs - 2) bs))
    ∙ ap (λ n. cond (get_or bs (length bs - 2) 0 + 256 * get_or bs n 0 == 0) (Some (units_in (take (length bs - 2) bs))) None) last

-- bytes of less than a unit have none
pub before_nul_none : (bs : List ℕ) → length bs < 2 → before_nul (units_in bs) ≡ None
before_nul_none [] h = refl
before_nul_none (a ∷ []) h = refl
before_nul_none (a ∷ b ∷ rest) h = absurd (omega arith)

ltb_suc : (a b : ℕ) → ltb (1 + a) (suc b) ≡ ltb a b
ltb_suc a b = grind (arith, nat_tests)

-- the first NUL is within the units where one of them is
nul_within : (units : List ℕ) → nat_lt (position_or_len is_nul units) (length units) ≡ list_any is_nul units
nul_within [] = refl
nul_within (u ∷ us) = by (u == 0) (nul_within us)
  where
    by : (t : Bool) → nat_lt (position_or_len is_nul us) (length us) ≡ list_any is_nul us
        → nat_lt (cond (not t) (1 + position_or_len is_nul us) 0) (suc (length us)) ≡ (t || list_any is_nul us)
    by true h = lt-ltb 0 (suc (length us)) (omega arith)
    by false h = ltb_suc (position_or_len is_nul us) (length us) ∙ h

-- units are a well-formed name where there are some, not too many, and none is a NUL
pub well_formed_is : (units : List ℕ)
    → well_formed (Some units) ≡ cond (length units == 0 || nat_lt longest_name (length units) || list_any is_nul units) None (Some units)
well_formed_is units = by (length units == 0) (nat_lt longest_name (length units)) (nat_lt (position_or_len is_nul units) (length units)) (nul_within units)
  where
    by : (none many : Bool) (b : Bool) → b ≡ list_any is_nul units
        → if_named units (cond none (Err Empty) (cond many (Err (TooLong (length units))) (nul_check (cond b (Some (position_or_len is_nul units)) None))))
        ≡ cond (none || many || list_any is_nul units) None (Some units)
    by true many b h = refl
    by false true b h = refl
    by false false true h = ap (λ t. cond t None (Some units)) h
    by false false false h = ap (λ t. cond t None (Some units)) h
