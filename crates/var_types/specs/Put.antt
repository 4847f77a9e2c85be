-- What a text in memory holds, and what it is to put a text to it.
use Rattle.std.specs.Prelude.{◌≡◌, ℕ, Bool, true, false, List, [], ◌++◌, refl}
use Rattle.std.proofs.Common.{sym, ap, ◌∙◌, append_assoc}
use Rattle.std.proofs.lemmas.List.{append-nil}

-- a text in memory: its bytes, and whether memory was too short for some text that was put to it (this project's own)
pub record Text : Type 0 where
  pub bytes : List ℕ
  pub lacks : Bool

-- a front of a text stands behind these bytes
abbrev pub HasFront : List ℕ → List ℕ → List ℕ → Type 0
HasFront old new text = (front rest : List ℕ) × (front ++ rest ≡ text) × (new ≡ old ++ front)

-- putting a text, by whether memory was too short before it and whether it is behind it: nothing more is put; a front of it was; it was
abbrev pub PutsBy : Bool → Bool → Text → Text → List ℕ → Type 0
PutsBy true lacks old new text = new ≡ old
PutsBy false true old new text = HasFront old.bytes new.bytes text
PutsBy false false old new text = new.bytes ≡ old.bytes ++ text

-- a text was put behind another one, or a front of it where memory was too short (this project's own)
unfoldable pub PutsText : Text → Text → List ℕ → Type 0
PutsText old new text = PutsBy old.lacks new.lacks old new text

none_by : (lacks : Bool) (a : Text) → PutsBy lacks lacks a a []
none_by true a = refl
none_by false a = sym (append-nil a.bytes)

-- nothing is put between a state and itself
pub PutsText-none : (a : Text) → PutsText a a []
unfolding PutsText
PutsText-none a = none_by a.lacks a

joined_by : (x y z : Bool) (a b c : Text) (t u : List ℕ) → a.lacks ≡ x → b.lacks ≡ y → c.lacks ≡ z → PutsBy x y a b t → PutsBy y z b c u
    → PutsBy x z a c (t ++ u)
joined_by true true z a b c t u is_x is_y is_z first next = next ∙ first
joined_by true false z a b c t u is_x is_y is_z first next = let lost : true ≡ false = sym is_x ∙ sym (ap (λ (s : Text). s.lacks) first) ∙ is_y in cc
joined_by false true true a b c t u is_x is_y is_z first next =
    (first.0, first.1 ++ u, sym (append_assoc first.0 first.1 u) ∙ ap (λ (s : List ℕ). s ++ u) first.2, ap (λ (s : Text). s.bytes) next ∙ first.3)
joined_by false true false a b c t u is_x is_y is_z first next = let lost : false ≡ true = sym is_z ∙ ap (λ (s : Text). s.lacks) next ∙ is_y in cc
joined_by false false true a b c t u is_x is_y is_z first next = (
  t ++ next.0,
  next.1,
  append_assoc t next.0 next.1 ∙ ap (λ (s : List ℕ). t ++ s) next.2,
  next.3 ∙ ap (λ (s : List ℕ). s ++ next.0) first ∙ append_assoc a.bytes t next.0,
)
joined_by false false false a b c t u is_x is_y is_z first next = next ∙ ap (λ (s : List ℕ). s ++ u) first ∙ append_assoc a.bytes t u

-- two texts that are put one behind the other are their text
pub PutsText-joined : (a b c : Text) (t u : List ℕ) → PutsText a b t → PutsText b c u → PutsText a c (t ++ u)
unfolding PutsText
PutsText-joined a b c t u first next = joined_by a.lacks b.lacks c.lacks a b c t u refl refl refl first next
