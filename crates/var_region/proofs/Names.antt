-- A name with its NUL is read again from its bytes.
use Rattle.std.proofs.Common.{◌≡◌, ℕ, ◌+◌, ◌*◌, ◌/◌, ◌%◌, ◌<◌, cond, List, [], ◌∷◌, ◌++◌, length, option_map, Some, None, refl, ap, ◌∙◌, arith, Ok}
use Rattle.std.proofs.lemmas.Bool.{eq-eqb}
use Rattle.std.proofs.lemmas.List.Elements.{recursion_from_All}
use Rattle.std.specs.List.{AllByRecursion}
use Rattle.var_types.specs.Live.{before_nul, if_named, name_in, units_in, well_formed}
use Rattle.var_types.specs.Name.{name_check}
use Rattle.var_types.specs.Values.{AreUnits}
use Rattle.var_region.specs.NewRecord.{unit_bytes}

-- a unit is its two bytes
unit_again : (unit : ℕ) → unit < 65536 → unit % 256 + 256 * (unit / 256 % 256) ≡ unit
unit_again unit h = omega arith

-- the bytes of units are read as these
units_again : (units : List ℕ) → AllByRecursion (λ unit. unit < 65536) units → units_in (unit_bytes units ++ 0 ∷ 0 ∷ []) ≡ units ++ 0 ∷ []
units_again [] all = refl
units_again (unit ∷ units) all = λ i. unit_again unit all.0 i ∷ units_again units all.1 i

-- the units before the NUL at the end
before_nul_again : (units : List ℕ) → before_nul (units ++ 0 ∷ []) ≡ Some units
before_nul_again [] = refl
before_nul_again (unit ∷ []) = refl
before_nul_again (unit ∷ next ∷ units) = ap (option_map (λ rest. unit ∷ rest)) (before_nul_again (next ∷ units))

-- a well-formed name is read again
pub name_again : (units : List ℕ) → name_check units ≡ Ok tt → AreUnits units
    → name_in (unit_bytes units ++ 0 ∷ 0 ∷ []) (2 * length units + 2) ≡ Some units
unfolding name_in
name_again units named are =
    let even : (2 * length units + 2) % 2 ≡ 0 = omega arith in
    ap (λ b. cond b (well_formed (before_nul (units_in (unit_bytes units ++ 0 ∷ 0 ∷ [])))) None) (eq-eqb ((2 * length units + 2) % 2) 0 even)
    ∙ ap (λ found. well_formed (before_nul found)) (units_again units (recursion_from_All (λ unit. unit < 65536) units are))
    ∙ ap well_formed (before_nul_again units)
    ∙ ap (if_named units) named
