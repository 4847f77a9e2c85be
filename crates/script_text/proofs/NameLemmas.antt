-- Reading a name's units one after the other gives the units that it spells.
use Rattle.std.proofs.Common.{◌≡◌, ℕ, ◌≤◌, Bool, true, false, cond, eqb, List, [], ◌∷◌, ◌++◌, length, Option, Some, None, Ok, Err, refl, sym, ap, ◌∙◌, inl, inr, arith, append_assoc, length-append}
use Rattle.std.proofs.lemmas.Bool.{cases_Bool, eqb-true, lt-leb, le-leb, ne_eqb}
use Rattle.std.proofs.lemmas.List.{append-nil}
use Rattle.std.specs.Option.{option_map}
use Rattle.script_text.specs.declared.line_reason.LineReason.TheVariants as reason
use Rattle.script_text.specs.FirstUnit.{escaped_front, first_unit, units_by, units_after}
use Rattle.script_text.specs.Names.{plain_unit, escaped_unit, before_units, units_of, name_within}

plain_front : (o : Option ℕ) (cs : List ℕ) → before_units o (units_of cs) ≡ units_by (option_map (λ unit. (unit, cs)) o)
plain_front None cs = refl
plain_front (Some unit) cs = refl

-- a `%` before fewer than four characters spells nothing
bare : (c : ℕ) (units : Option (List ℕ)) → eqb c 37 ≡ true → before_units (plain_unit c) units ≡ None
bare c units e = rw (eqb-true c 37 e) refl

-- a character before too few for an escape
short : (c : ℕ) (cs : List ℕ) → escaped_front cs ≡ None → before_units (plain_unit c) (units_of cs) ≡ units_by (first_unit (c ∷ cs))
short c cs h =
    elim (cases_Bool (eqb c 37)) [
      | inl e ↦ bare c (units_of cs) e ∙ rw (e, h) refl
      | inr e ↦ plain_front (plain_unit c) cs ∙ rw e refl
    ]

-- an escape or a plain character, by a test
either_front : (b : Bool) (escaped : Option ℕ) (rest : List ℕ) (plain : Option ℕ) (cs : List ℕ) → cond b (before_units escaped (units_of rest)) (before_units plain (units_of cs)) ≡ units_by (cond b (option_map (λ unit. (unit, rest)) escaped) (option_map (λ unit. (unit, cs)) plain))
either_front true escaped rest plain cs = plain_front escaped rest
either_front false escaped rest plain cs = plain_front plain cs

-- the units of some characters, by the first unit
pub units_of-cons : (c : ℕ) (cs : List ℕ) → units_of (c ∷ cs) ≡ units_by (first_unit (c ∷ cs))
unfolding units_of
units_of-cons c [] = short c [] refl
units_of-cons c (a ∷ []) = short c (a ∷ []) refl
units_of-cons c (a ∷ b ∷ []) = short c (a ∷ b ∷ []) refl
units_of-cons c (a ∷ b ∷ d ∷ []) = short c (a ∷ b ∷ d ∷ []) refl
units_of-cons c (a ∷ b ∷ d ∷ e ∷ rest) = either_front (eqb c 37) (escaped_unit a b d e) rest (plain_unit c) (a ∷ b ∷ d ∷ e ∷ rest)

units_of-first : (cs : List ℕ) → false ≡ eqb (length cs) 0 → units_of cs ≡ units_by (first_unit cs)
units_of-first [] h = absurd cc
units_of-first (c ∷ cs) h = units_of-cons c cs

units_after-step : (front : List ℕ) (unit : ℕ) (units : Option (List ℕ)) → units_after front (before_units (Some unit) units) ≡ units_after (front ++ unit ∷ []) units
units_after-step front unit None = refl
units_after-step front unit (Some units) = ap (λ (all : List ℕ). Some all) (sym (append_assoc front (unit ∷ []) units))

-- a unit behind 1,024 makes no name, whatever follows
too_many : (front : List ℕ) (unit : ℕ) (units : Option (List ℕ)) → 1024 ≤ length front → name_within (units_after front (before_units (Some unit) units)) ≡ Err reason.Name
too_many front unit None h = refl
too_many front unit (Some units) h = rw (lt-leb (length (front ++ (unit ∷ units))) 1024 (omega (arith, length-append front (unit ∷ units)))) refl

-- ---- the steps of the loop over a name

pub no_unit : (front rest word : List ℕ) → false ≡ eqb (length rest) 0 → None ≡ first_unit rest → units_after front (units_of rest) ≡ units_of word → name_within (units_of word) ≡ Err reason.Name
no_unit front rest word more none so_far =
    let nothing : units_of rest ≡ None = units_of-first rest more ∙ ap units_by (sym none) in
    ap name_within (sym so_far ∙ ap (units_after front) nothing)

one_unit : (front rest : List ℕ) (unit : ℕ) (behind : List ℕ) → false ≡ eqb (length rest) 0 → Some (unit, behind) ≡ first_unit rest → units_after front (units_of rest) ≡ units_after front (before_units (Some unit) (units_of behind))
one_unit front rest unit behind more first = ap (units_after front) (units_of-first rest more ∙ ap units_by (sym first))

pub next_unit : (front rest word : List ℕ) (unit : ℕ) (behind : List ℕ) → false ≡ eqb (length rest) 0 → Some (unit, behind) ≡ first_unit rest → units_after front (units_of rest) ≡ units_of word → units_after (front ++ unit ∷ []) (units_of behind) ≡ units_of word
next_unit front rest word unit behind more first so_far = sym (units_after-step front unit (units_of behind)) ∙ sym (one_unit front rest unit behind more first) ∙ so_far

pub over_limit : (front rest word : List ℕ) (unit : ℕ) (behind : List ℕ) → false ≡ eqb (length rest) 0 → Some (unit, behind) ≡ first_unit rest → units_after front (units_of rest) ≡ units_of word → 1024 ≤ length front → name_within (units_of word) ≡ Err reason.Name
over_limit front rest word unit behind more first so_far many = ap name_within (sym so_far ∙ one_unit front rest unit behind more first) ∙ too_many front unit (units_of behind) many

no_rest : (rest : List ℕ) → true ≡ eqb (length rest) 0 → units_of rest ≡ Some []
unfolding units_of
no_rest [] h = refl
no_rest (c ∷ cs) h = let longer : eqb (length (c ∷ cs)) 0 ≡ false = ne_eqb _ _ (λ e. omega arith) in absurd cc

pub all_units : (front rest word : List ℕ) → true ≡ eqb (length rest) 0 → units_after front (units_of rest) ≡ units_of word → length front ≤ 1024 → name_within (units_of word) ≡ Ok front
all_units front rest word done so_far few =
    let whole : units_of word ≡ Some front = sym so_far ∙ ap (units_after front) (no_rest rest done) ∙ ap (λ (all : List ℕ). Some all) (append-nil front) in
    ap name_within whole ∙ rw (le-leb (length front) 1024 few) refl
