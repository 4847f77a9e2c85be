-- Processors whose calls are made one after the other: one processor more, and one call more of the last.
use Rattle.std.proofs.Common.{◌≡◌, ℕ, ◌+◌, ◌<◌, Bool, true, false, cond, List, [], ◌∷◌, ◌++◌, length, length-append, map, sum_by, All, refl, sym, ap, ◌∙◌, append_assoc, arith, if◌then◌else◌}
use Rattle.std.proofs.lemmas.Bool.{ne_eqb}
use Rattle.std.proofs.lemmas.List.{append-nil, length-map}
use Rattle.std.proofs.lemmas.List.Concat.{flat_map-append}
use Rattle.std.proofs.lemmas.List.Sums.{sum_by-cons}
use Rattle.std.proofs.lemmas.List.Elements.{All-append, All-cons, All-head, All-nil, All-tail}
use Rattle.report_text.specs.Session.{history_from}
use Rattle.var_types.proofs.LegalSessions.{changes_from-more}
use Rattle.var_types.specs.declared.answered.Answered.{Answered}
use Rattle.var_types.specs.declared.answered.Route.TheVariants.{Plain}
use Rattle.var_types.specs.History.{Entry}
use Rattle.var_types.specs.Session.{AreAllRight, AreChangesOf, AreOrderedFrom, ArePlain, IsLegalSession, calls_of, changes_from, entries_of, entry_of}
use Rattle.var_types.specs.State.{State}
use Rattle.var_types.specs.Step.{is_change}
use Rattle.varsvc.specs.Runs.{AreInTurn, all_answered}

-- ---- histories

-- the changes of processors, and of those behind them
history_from-append : (first : ℕ) (front back : List (List Answered))
    → history_from first (front ++ back) ≡ history_from first front ++ history_from (first + length front) back
history_from-append first [] back = ap (λ n. history_from n back) (omega arith)
history_from-append first (x ∷ front) back =
    ap (λ (es : List Entry). changes_from first 0 x ++ es) (history_from-append (first + 1) front back)
    ∙ sym (append_assoc (changes_from first 0 x) (history_from (first + 1) front) (history_from (first + 1 + length front) back))
    ∙ ap (λ n. (changes_from first 0 x ++ history_from (first + 1) front) ++ history_from n back) (omega arith)

-- those of the last processor stand behind the others
history_from-last : (front : List (List Answered)) (xs : List Answered)
    → history_from 0 (front ++ xs ∷ []) ≡ history_from 0 front ++ changes_from (length front) 0 xs
history_from-last front xs =
    history_from-append 0 front (xs ∷ [])
    ∙ ap (λ n. history_from 0 front ++ history_from n (xs ∷ [])) (omega arith)
    ∙ ap (λ (es : List Entry). history_from 0 front ++ es) (append-nil (changes_from (length front) 0 xs))

-- and so does that of one call more of it
pub history_from-more : (front : List (List Answered)) (xs : List Answered) (a : Answered)
    → history_from 0 (front ++ (xs ++ a ∷ []) ∷ []) ≡ history_from 0 (front ++ xs ∷ []) ++ changes_from (length front) (length xs) (a ∷ [])
history_from-more front xs a =
    history_from-last front (xs ++ a ∷ [])
    ∙ ap (λ (es : List Entry). history_from 0 front ++ es) (sym (changes_from-more (length front) 0 (length xs) xs a (omega arith)))
    ∙ sym (append_assoc (history_from 0 front) (changes_from (length front) 0 xs) (changes_from (length front) (length xs) (a ∷ [])))
    ∙ ap (λ (es : List Entry). es ++ changes_from (length front) (length xs) (a ∷ [])) (sym (history_from-last front xs))

-- one processor more, without calls, makes no change
pub history_from-next : (processors : List (List Answered)) → history_from 0 (processors ++ [] ∷ []) ≡ history_from 0 processors
history_from-next processors = history_from-last processors [] ∙ append-nil (history_from 0 processors)

-- ---- all answered calls

answered-last : (front : List (List Answered)) (xs : List Answered) → all_answered (front ++ xs ∷ []) ≡ all_answered front ++ xs
answered-last front xs =
    flat_map-append (λ (x : List Answered). x) front (xs ∷ []) ∙ ap (λ (ys : List Answered). all_answered front ++ ys) (append-nil xs)

pub answered-more : (front : List (List Answered)) (xs : List Answered) (a : Answered)
    → all_answered (front ++ (xs ++ a ∷ []) ∷ []) ≡ all_answered (front ++ xs ∷ []) ++ a ∷ []
answered-more front xs a =
    answered-last front (xs ++ a ∷ [])
    ∙ sym (append_assoc (all_answered front) xs (a ∷ []))
    ∙ ap (λ (ys : List Answered). ys ++ a ∷ []) (sym (answered-last front xs))

pub answered-next : (processors : List (List Answered)) → all_answered (processors ++ [] ∷ []) ≡ all_answered processors
answered-next processors = answered-last processors [] ∙ append-nil (all_answered processors)

-- ---- calls in turn

-- how many changes there are behind answered calls
abbrev made_behind : ℕ → List Answered → ℕ
made_behind made [] = made
made_behind made (a ∷ rest) = made_behind (if is_change a.reply then made + 1 else made) rest

made_behind-append : (made : ℕ) (xs ys : List Answered) → made_behind made (xs ++ ys) ≡ made_behind (made_behind made xs) ys
made_behind-append made [] ys = refl
made_behind-append made (x ∷ xs) ys = made_behind-append (if is_change x.reply then made + 1 else made) xs ys

-- as many as before, and those of the calls
made_behind-changes : (made processor index : ℕ) (xs : List Answered) → made_behind made xs ≡ made + length (changes_from processor index xs)
made_behind-changes made processor index [] = omega arith
made_behind-changes made processor index (x ∷ xs) = by (is_change x.reply) (λ so_far. made_behind-changes so_far processor (index + 1) xs)
  where
    by : (change : Bool) → ((so_far : ℕ) → made_behind so_far xs ≡ so_far + length (changes_from processor (index + 1) xs))
        → made_behind (if change then made + 1 else made) xs
        ≡ made + length (if change then entry_of processor index x ∷ changes_from processor (index + 1) xs else changes_from processor (index + 1) xs)
    by true rest = let counted = rest (made + 1) in omega (arith, counted)
    by false rest = rest made

made_behind-history : (made processor : ℕ) (xs : List (List Answered)) → made_behind made (all_answered xs) ≡ made + length (history_from processor xs)
made_behind-history made processor [] = omega arith
made_behind-history made processor (x ∷ xs) =
    let own = made_behind-changes made processor 0 x in
    let rest = made_behind-history (made_behind made x) (processor + 1) xs in
    let both = length-append (changes_from processor 0 x) (history_from (processor + 1) xs) in
    made_behind-append made x (all_answered xs) ∙ omega (arith, own, rest, both)

-- one call more, at the place behind the changes so far
in_turn-more : (made : ℕ) (xs : List Answered) (a : Answered) → AreInTurn made xs → a.place ≡ made_behind made xs → AreInTurn made (xs ++ a ∷ [])
in_turn-more made [] a in_turn place = (place, tt)
in_turn-more made (x ∷ xs) a in_turn place = (in_turn.0, in_turn-more (if is_change x.reply then made + 1 else made) xs a in_turn.1 place)

pub in_turn-behind : (processors : List (List Answered)) (a : Answered) → AreInTurn 0 (all_answered processors)
    → a.place ≡ length (history_from 0 processors) → AreInTurn 0 (all_answered processors ++ a ∷ [])
in_turn-behind processors a in_turn place =
    in_turn-more 0 (all_answered processors) a in_turn (let made = made_behind-history 0 0 processors in omega (arith, place, made))

-- ---- a legal session with one processor more, that has made no call

-- the changes of others
others : (processor : ℕ) (es : List Entry) → All (λ (e : Entry). e.processor < processor) es → entries_of processor es ≡ []
others processor [] below = refl
others processor (e ∷ es) below =
    let low = All-head (λ (e : Entry). e.processor < processor) e es below in
    ap (λ own. cond own (e ∷ entries_of processor es) (entries_of processor es)) (ne_eqb e.processor processor (λ same. omega (arith, same, low)))
    ∙ others processor es (All-tail (λ (e : Entry). e.processor < processor) e es below)

-- entries that are below a processor are below the next
below_next : (processor : ℕ) (es : List Entry) → All (λ (e : Entry). e.processor < processor) es → All (λ (e : Entry). e.processor < processor + 1) es
below_next processor [] below = All-nil (λ (e : Entry). e.processor < processor + 1)
below_next processor (e ∷ es) below =
    let low = All-head (λ (e : Entry). e.processor < processor) e es below in
    All-cons (λ (e : Entry). e.processor < processor + 1) e es (omega (arith, low))
    (below_next processor es (All-tail (λ (e : Entry). e.processor < processor) e es below))

once-next : (history : List Entry) (first : ℕ) (processors : List (List Answered)) → AreChangesOf history first processors
    → AreChangesOf history first (processors ++ [] ∷ [])
once-next history first [] once = (others first history once, below_next first history once)
once-next history first (x ∷ xs) once = (once.0, once-next history (first + 1) xs once.1)

right-next : (state : State) (history : List Entry) (first : ℕ) (processors : List (List Answered)) → AreAllRight state history first processors
    → AreAllRight state history first (processors ++ [] ∷ [])
right-next state history first [] right = (tt, tt)
right-next state history first (x ∷ xs) right = (right.0, right-next state history (first + 1) xs right.1)

pub legal-next : (state : State) (history : List Entry) (processors : List (List Answered)) → IsLegalSession state history processors
    → IsLegalSession state history (processors ++ [] ∷ [])
legal-next state history processors legal = record {
  right = right-next state history 0 processors legal.right;
  ordered = All-append (AreOrderedFrom 0) processors ([] ∷ []) legal.ordered (All-cons (AreOrderedFrom 0) [] [] tt (All-nil (AreOrderedFrom 0)));
  once = once-next history 0 processors legal.once;
  plain =
      All-append ArePlain processors ([] ∷ []) legal.plain (All-cons ArePlain [] [] (All-nil (λ (a : Answered). a.route ≡ Plain)) (All-nil ArePlain));
}

-- a session of no processor is legal
pub no_processor : (state : State) → IsLegalSession state [] []
no_processor state = record {
  right = tt;
  ordered = All-nil (AreOrderedFrom 0);
  once = All-nil (λ (e : Entry). e.processor < 0);
  plain = All-nil ArePlain;
}

-- ---- counts

-- there are as many answered calls as calls
pub count_of : (processors : List (List Answered)) → sum_by length processors ≡ sum_by length (map calls_of processors)
count_of [] = refl
count_of (x ∷ xs) =
    let own = length-map x (λ (a : Answered). a.call) in
    let rest = count_of xs in
    sum_by-cons length x xs ∙ omega (arith, own, rest) ∙ sym (sum_by-cons length (calls_of x) (map calls_of xs))
