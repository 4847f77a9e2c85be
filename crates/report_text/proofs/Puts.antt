-- What the calls of a sink behind a page put.
use Rattle.std.proofs.Common.{◌≡◌, ℕ, Bool, true, false, List, [], ◌++◌, length, take, drop, Option, refl, sym, ap, ◌∙◌, subst, arith, length-append}
use Rattle.std.proofs.KnownBytes.{Appends-nil}
use Rattle.std.proofs.lemmas.List.{append-nil, take-append-drop, take_at}
use Rattle.std.specs.Io.KnownBytes.{Appends}
use Rattle.outside.specs.Faults.{HasRisen}
use Rattle.outside.specs.Written.{AppendsPart}
use Rattle.report_text.specs.Flow.{Flow, Kept, PutsBy, PutsThrough, PutsThrough-joined, empty}

-- by whether a write had failed, and whether one has
puts_by : (x y : Bool) (old new : Flow) (text : List ℕ) → old.kept.broken ≡ x → new.kept.broken ≡ y → PutsBy x y old new text → PutsThrough old new text
unfolding PutsThrough
puts_by x y old new text before after h =
    subst (λ (b : Bool). PutsBy b new.kept.broken old new text) (sym before) (subst (λ (b : Bool). PutsBy x b old new text) (sym after) h)

by_puts : (x y : Bool) (old new : Flow) (text : List ℕ) → old.kept.broken ≡ x → new.kept.broken ≡ y → PutsThrough old new text → PutsBy x y old new text
unfolding PutsThrough
by_puts x y old new text before after h =
    subst (λ (b : Bool). PutsBy b y old new text) before (subst (λ (b : Bool). PutsBy old.kept.broken b old new text) after h)

-- what isn't false is true
pub true_unless_false : (b : Bool) → (b ≡ false → ⊥) → b ≡ true
true_unless_false true h = refl
true_unless_false false h = absurd (h refl)

-- a text is put as another spelling of it
pub puts_same : (old new : Flow) (t u : List ℕ) → t ≡ u → PutsThrough old new t → PutsThrough old new u
puts_same old new t u same puts = subst (PutsThrough old new) same puts

-- where a write has failed, a text changes nothing
pub puts_nothing : (a : Flow) (text : List ℕ) → a.kept.broken ≡ true → PutsThrough a a text
puts_nothing a text broken = puts_by true true a a text broken broken refl

-- the page keeps the text
pub puts_kept : (held : Option (List ℕ)) (faults : ℕ) (old new : Kept) (text : List ℕ) → old.broken ≡ false → new ≡ record old { bytes = old.bytes ++ text }
    → PutsThrough (record { held = held; faults = faults; kept = old }) (record { held = held; faults = faults; kept = new }) text
puts_kept held faults old new text whole is =
    puts_by false false _ _ text whole (ap (λ (k : Kept). k.broken) is ∙ whole) (([], Appends-nil held, ap (λ (k : Kept). k.bytes) is), refl)

-- the sink took what the page kept and the text, of which the page keeps nothing
pub puts_sent : (before after : Option (List ℕ)) (risen faults : ℕ) (old new : Kept) (gone text : List ℕ) → old.broken ≡ false → new.broken ≡ false
    → gone ≡ old.bytes ++ text → new.bytes ≡ [] → Appends before after gone → risen ≡ faults
    → PutsThrough (record { held = before; faults = faults; kept = old }) (record { held = after; faults = risen; kept = new }) text
puts_sent before after risen faults old new gone text whole still all none took stands =
    puts_by false false _ _ text whole still ((gone, took, ap (λ (t : List ℕ). gone ++ t) none ∙ append-nil gone ∙ all), stands)

-- the sink took a front of that
pub puts_front : (before after : Option (List ℕ)) (risen faults : ℕ) (old new : Kept) (gone text : List ℕ) → old.broken ≡ false → new.broken ≡ true
    → gone ≡ old.bytes ++ text → AppendsPart before after gone → HasRisen faults risen
    → PutsThrough (record { held = before; faults = faults; kept = old }) (record { held = after; faults = risen; kept = new }) text
puts_front before after risen faults old new gone text whole broken all (n, within, took) rose =
    puts_by false true _ _ text whole broken ((take n gone, drop n gone, take-append-drop n gone ∙ all, took), rose)

-- from an empty page to an empty one the sink took the text
pub puts_whole : (old new : Flow) (text : List ℕ) → old.kept ≡ empty → new.kept ≡ empty → PutsThrough old new text
    → Appends old.held new.held text × (new.faults ≡ old.faults)
puts_whole old new text before after h =
    let puts : PutsBy false false old new text = by_puts false false old new text (ap (λ (k : Kept). k.broken) before) (ap (λ (k : Kept). k.broken) after) h in
    let gone = puts.0.0 in
    let all : gone ≡ text =
    sym (append-nil gone) ∙ ap (λ (k : Kept). gone ++ k.bytes) (sym after) ∙ puts.0.2 ∙ ap (λ (k : Kept). k.bytes ++ text) before in
    (subst (Appends old.held new.held) all puts.0.1, puts.1)

-- from an empty page to a broken one the sink took a front of the text
pub puts_part : (old new : Flow) (text : List ℕ) → old.kept ≡ empty → new.kept.broken ≡ true → PutsThrough old new text
    → AppendsPart old.held new.held text × HasRisen old.faults new.faults
puts_part old new text before after h =
    let puts : PutsBy false true old new text = by_puts false true old new text (ap (λ (k : Kept). k.broken) before) after h in
    let front = puts.0.0 in
    let rest = puts.0.1 in
    let all : front ++ rest ≡ text = puts.0.2 ∙ ap (λ (k : Kept). k.bytes ++ text) before in
    let is_front : take (length front) text ≡ front = ap (take (length front)) (sym all) ∙ take_at front rest (length front) refl in (
      (
        length front,
        let count : length (front ++ rest) ≡ length text = ap length all in omega (arith, count, length-append front rest),
        subst (Appends old.held new.held) (sym is_front) puts.0.3,
      ),
      puts.1,
    )

-- a text that is put, and then no text, is that text
pub puts_end : (a b c : Flow) (text : List ℕ) → PutsThrough a b text → PutsThrough b c [] → PutsThrough a c text
puts_end a b c text first last = puts_same a c (text ++ []) text (append-nil text) (PutsThrough-joined a b c text [] first last)
