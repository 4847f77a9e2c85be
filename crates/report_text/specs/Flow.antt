-- A sink behind a page, and what it is to put a text to it.
use Rattle.std.specs.Prelude.{◌≡◌, ℕ, Bool, true, false, List, [], ◌++◌, Option, refl}
use Rattle.std.specs.Io.KnownBytes.{Appends}
use Rattle.std.proofs.Common.{sym, ap, ◌∙◌, subst, append_assoc}
use Rattle.std.proofs.KnownBytes.{Appends-nil, Appends-trans}
use Rattle.std.proofs.lemmas.List.{append-nil}
use Rattle.outside.specs.Faults.{HasRisen}

-- what a page keeps: bytes that the sink has yet to take, and whether a write of the sink failed (this project's own)
pub record Kept : Type 0 where
  pub bytes : List ℕ
  pub broken : Bool

-- a page that keeps nothing
abbrev pub empty : Kept
empty = record { bytes = []; broken = false }

-- a sink behind a page: what the sink holds, where it tells that, how many of its calls have failed, and the page (this project's own)
pub record Flow : Type 0 where
  pub held : Option (List ℕ)
  pub faults : ℕ
  pub kept : Kept

-- the sink took what the page kept and the text behind it, but for what the page keeps of that
abbrev pub Moves : Flow → Flow → List ℕ → Type 0
Moves old new text = (gone : List ℕ) × Appends old.held new.held gone × (gone ++ new.kept.bytes ≡ old.kept.bytes ++ text)

-- the sink took a front of these bytes
abbrev pub TakesFront : Option (List ℕ) → Option (List ℕ) → List ℕ → Type 0
TakesFront old new bytes = (front rest : List ℕ) × (front ++ rest ≡ bytes) × Appends old new front

-- putting a text, by whether a write had failed before it and whether one has behind it: nothing is put any more; one failed, and the sink
-- took a front; or none did
abbrev pub PutsBy : Bool → Bool → Flow → Flow → List ℕ → Type 0
PutsBy true broken old new text = new ≡ old
PutsBy false true old new text = TakesFront old.held new.held (old.kept.bytes ++ text) × HasRisen old.faults new.faults
PutsBy false false old new text = Moves old new text × (new.faults ≡ old.faults)

-- a text was put to a sink behind a page (this project's own)
unfoldable pub PutsThrough : Flow → Flow → List ℕ → Type 0
PutsThrough old new text = PutsBy old.kept.broken new.kept.broken old new text

none_by : (broken : Bool) (a : Flow) → PutsBy broken broken a a []
none_by true a = refl
none_by false a = (([], Appends-nil a.held, sym (append-nil a.kept.bytes)), refl)

-- nothing is put between a state and itself
pub PutsThrough-none : (a : Flow) → PutsThrough a a []
unfolding PutsThrough
PutsThrough-none a = none_by a.kept.broken a

-- what went out before and the rest
rest_of : (gone rest kept before t u : List ℕ) → gone ++ kept ≡ before ++ t → rest ≡ kept ++ u → gone ++ rest ≡ before ++ (t ++ u)
rest_of gone rest kept before t u first next =
    ap (λ (s : List ℕ). gone ++ s) next ∙ sym (append_assoc gone kept u) ∙ ap (λ (s : List ℕ). s ++ u) first ∙ append_assoc before t u

joined_by : (x y z : Bool) (a b c : Flow) (t u : List ℕ) → a.kept.broken ≡ x → b.kept.broken ≡ y → c.kept.broken ≡ z → PutsBy x y a b t → PutsBy y z b c u
    → PutsBy x z a c (t ++ u)
joined_by true true z a b c t u is_x is_y is_z first next = next ∙ first
joined_by true false z a b c t u is_x is_y is_z first next =
    let lost : true ≡ false = sym is_x ∙ sym (ap (λ (s : Flow). s.kept.broken) first) ∙ is_y in cc
joined_by false true true a b c t u is_x is_y is_z ((front, rest, is, took), rose) next = (
  (
    front,
    rest ++ u,
    sym (append_assoc front rest u) ∙ ap (λ (s : List ℕ). s ++ u) is ∙ append_assoc a.kept.bytes t u,
    subst (λ (s : Flow). Appends a.held s.held front) (sym next) took,
  ),
  subst (λ (s : Flow). HasRisen a.faults s.faults) (sym next) rose,
)
joined_by false true false a b c t u is_x is_y is_z first next =
    let lost : false ≡ true = sym is_z ∙ ap (λ (s : Flow). s.kept.broken) next ∙ is_y in cc
joined_by false false true a b c t u is_x is_y is_z ((gone, took, moved), stands) ((front, rest, is, took_front), rose) = (
  (
    gone ++ front,
    rest,
    append_assoc gone front rest ∙ rest_of gone (front ++ rest) b.kept.bytes a.kept.bytes t u moved is,
    Appends-trans a.held b.held c.held gone front took took_front,
  ),
  subst (λ (n : ℕ). HasRisen n c.faults) stands rose,
)
joined_by false false false a b c t u is_x is_y is_z ((gone, took, moved), stands) ((later, took_later, moved_later), stands_later) = (
  (
    gone ++ later,
    Appends-trans a.held b.held c.held gone later took took_later,
    append_assoc gone later c.kept.bytes ∙ rest_of gone (later ++ c.kept.bytes) b.kept.bytes a.kept.bytes t u moved moved_later,
  ),
  stands_later ∙ stands,
)

-- two texts that are put one behind the other are their text
pub PutsThrough-joined : (a b c : Flow) (t u : List ℕ) → PutsThrough a b t → PutsThrough b c u → PutsThrough a c (t ++ u)
unfolding PutsThrough
PutsThrough-joined a b c t u first next = joined_by a.kept.broken b.kept.broken c.kept.broken a b c t u refl refl refl first next
