-- Streams of messages.
use Rattle.std.proofs.Common.{◌≡◌, ◌⊎◌, ℕ, zero, suc, ◌+◌, ◌<◌, ◌≤◌, true, false, List, [], ◌∷◌, ◌++◌, length, drop, refl, sym, ap, ◌∙◌, arith, append_assoc, inl, inr}
use Rattle.std.proofs.lemmas.List.{append-nil}
use Rattle.std.proofs.lemmas.List.Elements.{recursion_from_All}
use Rattle.mm_message.specs.declared.taken.Taken.TheVariants.{Fault, More, OutOfMemory, Request}
use Rattle.mm_message.specs.Messages.{is_request, size_in, taken_in}
use Rattle.mm_message.specs.Spellings.{Fits, spelling}
use Rattle.mm_message.specs.Streams.{Act, Acts, AllFit, IsLongest, Message, all_fed, all_taken, spellings}
use Rattle.mm_message.specs.Streams.Act.{fed, took}
use Rattle.mm_message.proofs.Numbers.{Bytes, Bytes-append, Bytes-drop}
use Rattle.mm_message.proofs.Read.{read_back}
use Rattle.mm_message.proofs.Spelled.{taken_spelled}
use Rattle.var_types.specs.declared.call.Call.{Call}

-- an inbox keeps all
pub kept : (held end : List ℕ) (acts : List Act) → Bytes held → Acts held acts end
    → (held ++ all_fed acts ≡ spellings (all_taken acts) ++ end) × AllFit (all_taken acts)
kept held end [] all steps = (append-nil held ∙ steps, tt)
kept held end (fed front ∷ acts) all steps =
    let more = kept (held ++ front) end acts (Bytes-append held front all (recursion_from_All (λ b. b < 256) front steps.0)) steps.1 in
    (sym (append_assoc held front (all_fed acts)) ∙ more.0, more.1)
kept held end (took (Request p call) ∷ acts) all steps =
    let rest = drop (4 + size_in held) held in
    let off = taken_spelled held p call all (sym steps.0) in
    let more = kept rest end acts (Bytes-drop (4 + size_in held) held all) steps.1 in (
      ap (λ (xs : List ℕ). xs ++ all_fed acts) (sym off.same)
          ∙ append_assoc (spelling p call) rest (all_fed acts)
          ∙ ap (λ (xs : List ℕ). spelling p call ++ xs) more.0
          ∙ sym (append_assoc (spelling p call) (spellings (all_taken acts)) end),
      (off.fits, more.1),
    )
kept held end (took More ∷ acts) all steps = kept held end acts all steps.1
kept held end (took (Fault fault) ∷ acts) all steps = kept held end acts all steps.1
kept held end (took OutOfMemory ∷ acts) all steps = kept held end acts all steps.1

-- messages that stand at the front of the same bytes are one, and so is what follows
fronts_are_one : (p q : ℕ) (call other : Call) (rest left : List ℕ) → Fits p call → Fits q other → spelling p call ++ rest ≡ spelling q other ++ left
    → (p ≡ q) × (call ≡ other) × (rest ≡ left)
fronts_are_one p q call other rest left fits fit same =
    let one = read_back p call rest fits in
    let two = read_back q other left fit in
    let taken : Request p call ≡ Request q other = sym one.taken ∙ ap taken_in same ∙ two.taken in
    let size : size_in (spelling p call ++ rest) ≡ size_in (spelling q other ++ left) = ap size_in same in (
      cc taken,
      cc taken,
      sym one.behind ∙ (λ i. drop (4 + size i) (same i)) ∙ two.behind,
    )

pub none_begins_another : (m n : Message) (rest : List ℕ) → Fits m.processor m.call → Fits n.processor n.call
    → spelling m.processor m.call ++ rest ≡ spelling n.processor n.call → (m ≡ n) × (rest ≡ [])
none_begins_another m n rest fits fit same =
    let one =
    fronts_are_one m.processor n.processor m.call n.call rest [] fits fit (same ∙ sym (append-nil (spelling n.processor n.call))) in
    ((λ i. record { processor = one.0 i; call = one.1 i }), one.2)

-- what ends a longest list
abbrev pub Ends : ℕ → List Message → List ℕ → Type 0
Ends limit messages rest = (length messages ≡ limit) ⊎ (is_request (taken_in rest) ≡ false)

-- a message doesn't follow a longest list that isn't full
no_more : (limit : ℕ) (rest : List ℕ) (n : Message) (ns : List Message) (left : List ℕ) → rest ≡ (spelling n.processor n.call ++ spellings ns) ++ left
    → Fits n.processor n.call → length (n ∷ ns) ≤ limit → Ends limit [] rest → ⊥
no_more limit rest n ns left same fits few (inl full) = absurd (omega (arith, full, few))
no_more limit rest n ns left same fits few (inr none) =
    let front = spelling n.processor n.call in
    let read : taken_in rest ≡ Request n.processor n.call =
    ap taken_in (same ∙ append_assoc front (spellings ns) left) ∙ (read_back n.processor n.call (spellings ns ++ left) fits).taken in
    let one : true ≡ false = sym (ap is_request read) ∙ none in
    cc

-- the end of a list without its first message
shorter : (limit : ℕ) (m : Message) (ms : List Message) (rest : List ℕ) → Ends (suc limit) (m ∷ ms) rest → Ends limit ms rest
shorter limit m ms rest (inl full) = inl (omega (arith, full))
shorter limit m ms rest (inr none) = inr none

one_longest : (limit : ℕ) (ms ns : List Message) (rest left : List ℕ) → spellings ms ++ rest ≡ spellings ns ++ left → AllFit ms → AllFit ns
    → length ms ≤ limit → length ns ≤ limit → Ends limit ms rest → Ends limit ns left → (ms ≡ ns) × (rest ≡ left)
one_longest limit [] [] rest left same fits fit few less end ends = (refl, same)
one_longest limit [] (n ∷ ns) rest left same fits fit few less end ends = absurd (no_more limit rest n ns left same fit.0 less end)
one_longest limit (m ∷ ms) [] rest left same fits fit few less end ends = absurd (no_more limit left m ms rest (sym same) fits.0 few ends)
one_longest zero (m ∷ ms) (n ∷ ns) rest left same fits fit few less end ends = absurd (omega (arith, few))
one_longest (suc limit) (m ∷ ms) (n ∷ ns) rest left same fits fit few less end ends =
    let first = spelling m.processor m.call in
    let other = spelling n.processor n.call in
    let heads =
    fronts_are_one m.processor n.processor m.call n.call (spellings ms ++ rest) (spellings ns ++ left) fits.0 fit.0
    (sym (append_assoc first (spellings ms) rest) ∙ same ∙ append_assoc other (spellings ns) left) in
    let more =
    one_longest limit ms ns rest left heads.2 fits.1 fit.1 (omega (arith, few)) (omega (arith, less)) (shorter limit m ms rest end)
    (shorter limit n ns left ends) in
    ((λ i. record { processor = heads.0 i; call = heads.1 i } ∷ more.0 i), more.1)

pub longest_is_one : (limit : ℕ) (bytes : List ℕ) (messages others : List Message) (rest left : List ℕ) → IsLongest limit bytes messages rest
    → IsLongest limit bytes others left → (messages ≡ others) × (rest ≡ left)
longest_is_one limit bytes messages others rest left one two =
    one_longest limit messages others rest left (sym one.spelled ∙ two.spelled) one.fit two.fit one.few two.few one.last two.last

pub pieces_dont_matter : (acts others : List Act) (end left : List ℕ) → Acts [] acts end → Acts [] others left → all_fed acts ≡ all_fed others
    → is_request (taken_in end) ≡ false → is_request (taken_in left) ≡ false → (all_taken acts ≡ all_taken others) × (end ≡ left)
pieces_dont_matter acts others end left steps moves same none over =
    let one = kept [] end acts tt steps in
    let two = kept [] left others tt moves in
    one_longest (length (all_taken acts) + length (all_taken others)) (all_taken acts) (all_taken others) end left (sym one.0 ∙ same ∙ two.0) one.1 two.1
    (omega arith) (omega arith) (inr none) (inr over)
