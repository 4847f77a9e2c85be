-- The history with one change more: the states and the stores in it, and the history's own facts.
use Rattle.std.proofs.Common.{◌≡◌, ◌⊎◌, ℕ, zero, suc, ◌+◌, ◌≤◌, ◌<◌, true, List, [], ◌∷◌, ◌++◌, length, take, All, sym, ap, subst, ◌∙◌, inl, inr, ⊎_elim, length-append, arith}
use Rattle.std.proofs.lemmas.Bool.{cases_lt}
use Rattle.std.proofs.lemmas.List.{length-map, map-append, take-append-le, take_all}
use Rattle.std.proofs.lemmas.List.Elements.{All-append, All-cons, All-nil}
use Rattle.std.proofs.lemmas.Option.{slice_get_within}
use Rattle.std.specs.Prelude.{slice_get, Some}
use Rattle.pending_range.specs.declared.ranges.Ranges.{Ranges}
use Rattle.pending_range.specs.Ranges.{AgreeOutside}
use Rattle.var_trace.proofs.StoresAfter.{are_after}
use Rattle.var_trace.specs.declared.change.Change.{Change}
use Rattle.var_trace.specs.LegalSession.{IsChangeAt}
use Rattle.var_trace.specs.Pieces.{with_change}
use Rattle.var_trace.specs.StoresAfter.{bytes_at, history_in, stores_after}
use Rattle.var_types.proofs.Sessions.{slice_get-seam}
use Rattle.var_types.specs.History.{Entry, run}
use Rattle.var_types.specs.State.{State}
use Rattle.var_types.specs.Step.{is_change, step}
use Rattle.var_types.specs.Stores.{Means, Stores}
use Rattle.svc_core.proofs.Coverings.{agree_change, agree_more, agree_same, sizes_change, wider_covering}
use Rattle.svc_core.specs.Invariant.{History}
use Rattle.svc_core.specs.Plan.{IsInStore}
use Rattle.svc_core.specs.Ranges.{covering}
use Rattle.svc_core.specs.Writer.{Opening, state_at}

-- the history of a log that grows
pub history_more : (log : List Change) (change : Change) → history_in (log ++ change ∷ []) ≡ history_in log ++ change.entry ∷ []
history_more log change = map-append (λ (c : Change). c.entry) log (change ∷ [])

-- it is as long as the log
pub length-history : (log : List Change) → length (history_in log) ≡ length log
length-history log = length-map log (λ (c : Change). c.entry)

-- one change more
pub length-more : (log : List Change) (change : Change) → length (log ++ change ∷ []) ≡ length log + 1
length-more log change = length-append log (change ∷ [])

-- the states before the change are the same
pub state_same : (opening : Opening) (log : List Change) (change : Change) (n : ℕ) → n ≤ length log
    → state_at opening (log ++ change ∷ []) n ≡ state_at opening log n
state_same opening log change n within =
    ap (λ (es : List Entry). run opening.start (take n es)) (history_more log change)
    ∙ ap (run opening.start) (take-append-le n (history_in log) (change.entry ∷ []) (omega (arith, length-history log)))

-- so are the stores
pub bytes_same : (opening : Opening) (log : List Change) (change : Change) (n : ℕ) → n ≤ length log
    → bytes_at opening.stores (log ++ change ∷ []) n ≡ bytes_at opening.stores log n
bytes_same opening log change n within = (are_after opening.stores log (change ∷ [])).same n within

-- the stores behind the change
pub bytes_more : (opening : Opening) (log : List Change) (change : Change)
    → bytes_at opening.stores (log ++ change ∷ []) (length log + 1) ≡ with_change (bytes_at opening.stores log (length log)) change.delta
bytes_more opening log change =
    let after = are_after opening.stores log (change ∷ []) in
    ap (stores_after opening.stores) (take_all (length log + 1) (log ++ change ∷ []) (omega (arith, length-more log change)))
    ∙ after.behind
    ∙ ap (λ (s : Stores). with_change s change.delta) (sym after.all)

-- what stands at a place of the front of a list
slice_get-front : (xs ys : List Entry) (n : ℕ) (e : Entry) → n < length xs → slice_get (xs ++ ys) n ≡ Some e → slice_get xs n ≡ Some e
slice_get-front [] ys n e low h = absurd (omega arith)
slice_get-front (x ∷ xs) ys zero e low h = h
slice_get-front (x ∷ xs) ys (suc n) e low h = slice_get-front xs ys n e (omega arith) h

-- where a number is at most one more than another, it is at most that or one more
cases_more : (n m : ℕ) → n ≤ m + 1 → (n ≤ m) ⊎ (n ≡ m + 1)
cases_more n m h = ⊎_elim (λ (low : n < m + 1). inl (let k : n ≤ m = omega arith in k)) (λ (high : m + 1 ≤ n). inr (let k : n ≡ m + 1 = omega arith in k)) (cases_lt n (m + 1))

-- the history's facts with a change that was planned, its delta taken into stores and ranges
module _ (opening : Opening) (count made : ℕ) (log : List Change) (stores : Stores) (ranges : Ranges) (flushed : ℕ) (change : Change)
    (kept : History opening count made log stores ranges flushed) (room : length log < opening.start.limit) (inside : All IsInStore change.delta.pieces)
    (number : change.entry.number ≡ length log) (known : change.entry.processor < count)
    (changes : is_change (step (state_at opening log (length log)) change.entry.call).0 ≡ true)
    (means : Means (with_change stores change.delta) (state_at opening (log ++ change ∷ []) (length log + 1))) where
  abbrev more : List Change
  more = log ++ change ∷ []

  abbrev next : Stores
  next = with_change stores change.delta

  last_bytes : bytes_at opening.stores more (length log + 1) ≡ next
  last_bytes = bytes_more opening log change ∙ ap (λ (s : Stores). with_change s change.delta) (sym kept.stores_are)

  outside_more : (n : ℕ) → flushed ≤ n → (n ≤ length log) ⊎ (n ≡ length log + 1)
      → AgreeOutside (covering ranges change.delta.pieces) (bytes_at opening.stores more n) next
  outside_more n low (inl within) =
      subst (λ (s : Stores). AgreeOutside (covering ranges change.delta.pieces) s next) (sym (bytes_same opening log change n within))
      (agree_more ranges (covering ranges change.delta.pieces) (bytes_at opening.stores log n) stores next (wider_covering ranges change.delta.pieces)
      (kept.outside n low within) (agree_change ranges stores change.delta kept.sizes inside))
  outside_more n low (inr last) =
      subst (λ (s : Stores). AgreeOutside (covering ranges change.delta.pieces) s next)
      (sym (ap (bytes_at opening.stores more) last ∙ last_bytes)) (agree_same (covering ranges change.delta.pieces) next)

  means_more : (n : ℕ) → (n ≤ length log) ⊎ (n ≡ length log + 1) → Means (bytes_at opening.stores more n) (state_at opening more n)
  means_more n (inl within) =
      subst (λ (s : State). Means (bytes_at opening.stores more n) s) (sym (state_same opening log change n within))
      (subst (λ (b : Stores). Means b (state_at opening log n)) (sym (bytes_same opening log change n within)) (kept.means n within))
  means_more n (inr last) =
      subst (λ (m : ℕ). Means (bytes_at opening.stores more m) (state_at opening more m)) (sym last)
      (subst (λ (b : Stores). Means b (state_at opening more (length log + 1))) (sym last_bytes) means)

  -- an entry at a place of the longer history is one of the shorter, or the new one
  abbrev IsChangeMore : ℕ → Entry → Type 0
  IsChangeMore n entry = IsChangeAt opening.start (history_in more) n entry

  old_change : (n : ℕ) (entry : Entry) → n ≤ length log → IsChangeAt opening.start (history_in log) n entry → IsChangeMore n entry
  old_change n entry within is = record {
    number = is.number;
    change = ap (λ (s : State). is_change (step s entry.call).0) (state_same opening log change n within) ∙ is.change;
  }

  new_change : (n : ℕ) (entry : Entry) → n ≡ length log → change.entry ≡ entry → IsChangeMore n entry
  new_change n entry last is = record {
    number = ap (λ (e : Entry). e.number) (sym is) ∙ number ∙ sym last;
    change =
        ap (λ (s : State). is_change (step s entry.call).0) (state_same opening log change n (omega (arith, last)))
        ∙ ap (λ (m : ℕ). is_change (step (state_at opening log m) entry.call).0) last
        ∙ ap (λ (e : Entry). is_change (step (state_at opening log (length log)) e.call).0) (sym is)
        ∙ changes;
  }

  changes_more : (n : ℕ) (entry : Entry) → slice_get (history_in log ++ change.entry ∷ []) n ≡ Some entry → IsChangeMore n entry
  changes_more n entry h = ⊎_elim before behind (cases_lt n (length log))
    where
      before : n < length log → IsChangeMore n entry
      before low =
          old_change n entry (omega arith)
          (kept.changes n entry (slice_get-front (history_in log) (change.entry ∷ []) n entry (omega (arith, length-history log)) h))

      behind : length log ≤ n → IsChangeMore n entry
      behind high =
          let short : n < length (history_in log ++ change.entry ∷ []) = slice_get_within (history_in log ++ change.entry ∷ []) n entry h in
          let last : n ≡ length (history_in log) =
          omega (arith, length-append (history_in log) (change.entry ∷ []), length-history log) in
          let there : slice_get (history_in log ++ change.entry ∷ []) n ≡ Some change.entry = slice_get-seam (history_in log) [] change.entry n last in
          let one : change.entry ≡ entry = cc in
          new_change n entry (last ∙ length-history log) one

  pub grown : History opening count made more next (covering ranges change.delta.pieces) flushed
  grown = record {
    made_in = omega (arith, kept.made_in, length-more log change);
    room = omega (arith, length-more log change);
    stores_are = sym (ap (bytes_at opening.stores more) (length-more log change) ∙ last_bytes);
    sizes = sizes_change stores change.delta kept.sizes inside;
    outside = λ n low high. outside_more n low (cases_more n (length log) (omega (arith, length-more log change)));
    means = λ n high. means_more n (cases_more n (length log) (omega (arith, length-more log change)));
    changes = λ n entry h. changes_more n entry (subst (λ (es : List Entry). slice_get es n ≡ Some entry) (history_more log change) h);
    known =
        subst (All (λ (e : Entry). e.processor < count)) (sym (history_more log change))
        (All-append (λ (e : Entry). e.processor < count) (history_in log) (change.entry ∷ []) kept.known
        (All-cons (λ (e : Entry). e.processor < count) change.entry [] known (All-nil (λ (e : Entry). e.processor < count))));
  }
