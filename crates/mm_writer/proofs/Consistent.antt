-- A consistent side stays consistent by one change more.
use Rattle.std.proofs.Common.{◌≡◌, ℕ, ◌+◌, ◌≤◌, ◌<◌, ◌⊎◌, List, [], ◌∷◌, ◌++◌, length, take, refl, sym, ap, subst, ◌∙◌, inl, inr, ⊎_elim, arith, length-append}
use Rattle.std.proofs.lemmas.Bool.{cases_lt}
use Rattle.std.proofs.lemmas.List.{length-map, map-append, take-append-le, take_all}
use Rattle.mm_writer.specs.Side.{IsConsistent, Side, first_state, grown, state_of}
use Rattle.pending_range.specs.declared.ranges.Ranges.{Ranges}
use Rattle.pending_range.specs.Laws.{AgreementGrows, AgreementIsReflexive}
use Rattle.pending_range.specs.Ranges.{AgreeOutside, IsWider}
use Rattle.var_trace.proofs.StoresAfter.{are_after}
use Rattle.var_trace.specs.declared.change.Change.{Change}
use Rattle.var_trace.specs.Pieces.{with_change}
use Rattle.var_trace.specs.StoresAfter.{bytes_at, history_in, stores_after}
use Rattle.var_types.proofs.Soundness.{IsSound-step}
use Rattle.var_types.specs.History.{Entry, after, run}
use Rattle.var_types.specs.State.{State}
use Rattle.var_types.specs.Step.{step}
use Rattle.var_types.specs.Stores.{Means, Stores}
use Rattle.var_types.specs.Walk.{IsSound}

-- a state after some changes and then others
run-append : (state : State) (history more : List Entry) → run state (history ++ more) ≡ run (run state history) more
run-append state [] more = refl
run-append state (entry ∷ history) more = run-append (step state entry.call).1 history more

-- a number is one of those of a list, or that behind them
pub below_or_last : (b : ℕ) (log : List Change) (change : Change) → b ≤ length (log ++ change ∷ []) → (b ≤ length log) ⊎ (b ≡ length log + 1)
below_or_last b log change within =
    let size : length (log ++ change ∷ []) ≡ length log + 1 = length-append log (change ∷ []) in
    ⊎_elim (λ (low : b < length log + 1). inl (omega arith)) (λ (high : length log + 1 ≤ b). inr (omega arith)) (cases_lt b (length log + 1))

module _ (side : Side) (change : Change) where
  -- the history with the change's entry behind the others
  history_more : history_in (side.log ++ change ∷ []) ≡ history_in side.log ++ change.entry ∷ []
  history_more = map-append (λ (c : Change). c.entry) side.log (change ∷ [])

  -- the state after the change is that of one step more
  pub state_grown : (stores : Stores) (ranges : Ranges) → state_of (grown side change stores ranges) ≡ (step (state_of side) change.entry.call).1
  unfolding state_of first_state
  state_grown stores ranges =
      ap (run (first_state side)) history_more ∙ run-append (first_state side) (history_in side.log) (change.entry ∷ [])

  -- the state after fewer changes is as it was
  pub after_grown : (stores : Stores) (ranges : Ranges) (b : ℕ) → b ≤ length side.log
      → after (first_state (grown side change stores ranges)) (history_in (side.log ++ change ∷ [])) b ≡ after (first_state side) (history_in side.log) b
  unfolding first_state
  after_grown stores ranges b within =
      let low : b ≤ length (history_in side.log) = omega (arith, length-map side.log (λ (c : Change). c.entry)) in
      ap (λ (es : List Entry). run (first_state side) (take b es)) history_more
      ∙ ap (run (first_state side)) (take-append-le b (history_in side.log) (change.entry ∷ []) low)

  -- that after all of them is the state now
  pub after_all : (stores : Stores) (ranges : Ranges) (b : ℕ) → b ≡ length side.log + 1
      → after (first_state (grown side change stores ranges)) (history_in (side.log ++ change ∷ [])) b ≡ state_of (grown side change stores ranges)
  unfolding state_of
  after_all stores ranges b last =
      let all : length (history_in (side.log ++ change ∷ [])) ≤ b =
      omega (arith, length-map (side.log ++ change ∷ []) (λ (c : Change). c.entry), length-append side.log (change ∷ [])) in
      ap (run (first_state (grown side change stores ranges))) (take_all b (history_in (side.log ++ change ∷ [])) all)

  module _ (grows : AgreementGrows) (same : AgreementIsReflexive) (stores : Stores) (ranges : Ranges) (c : IsConsistent side) (made : stores ≡ with_change side.stores change.delta) (means : Means stores (step (state_of side) change.entry.call).1) (counted : (step (state_of side) change.entry.call).1.made ≡ (state_of side).made + 1) (limit : (step (state_of side) change.entry.call).1.limit ≡ (state_of side).limit) (wider : IsWider side.ranges ranges) (agree : AgreeOutside ranges side.stores stores) where
    abbrev next : Side
    next = grown side change stores ranges

    abbrev stepped : State
    stepped = (step (state_of side) change.entry.call).1

    -- the stores are those of the changes
    stores_grown : stores ≡ stores_after side.opening (side.log ++ change ∷ [])
    stores_grown =
        made ∙ ap (λ (s : Stores). with_change s change.delta) c.stores ∙ sym (are_after side.opening side.log (change ∷ [])).behind

    -- the stores after all changes are those now
    bytes_all : (b : ℕ) → b ≡ length side.log + 1 → bytes_at side.opening (side.log ++ change ∷ []) b ≡ stores
    bytes_all b last =
        ap (stores_after side.opening)
        (take_all b (side.log ++ change ∷ []) (let all : length (side.log ++ change ∷ []) ≤ b = omega (arith, length-append side.log (change ∷ [])) in all))
        ∙ sym stores_grown

    -- the stores after fewer are as they were
    bytes_before : (b : ℕ) → b ≤ length side.log → bytes_at side.opening (side.log ++ change ∷ []) b ≡ bytes_at side.opening side.log b
    bytes_before b within = (are_after side.opening side.log (change ∷ [])).same b within

    means_grown : (b : ℕ) → b ≤ length (side.log ++ change ∷ [])
        → Means (bytes_at side.opening (side.log ++ change ∷ []) b) (after (first_state next) (history_in (side.log ++ change ∷ [])) b)
    means_grown b within =
        ⊎_elim
        (λ (low : b ≤ length side.log).
        subst (λ (s : Stores). Means s (after (first_state next) (history_in (side.log ++ change ∷ [])) b)) (sym (bytes_before b low))
        (subst (Means (bytes_at side.opening side.log b)) (sym (after_grown stores ranges b low)) (c.means b low)))
        (λ (last : b ≡ length side.log + 1).
        subst (λ (s : Stores). Means s (after (first_state next) (history_in (side.log ++ change ∷ [])) b)) (sym (bytes_all b last))
        (subst (Means stores) (sym (after_all stores ranges b last ∙ state_grown stores ranges)) means))
        (below_or_last b side.log change within)

    pending_grown : (b : ℕ) → side.flushed ≤ b → b ≤ length (side.log ++ change ∷ [])
        → AgreeOutside ranges (bytes_at side.opening (side.log ++ change ∷ []) b) stores
    pending_grown b high within =
        ⊎_elim
        (λ (low : b ≤ length side.log).
        subst (λ (s : Stores). AgreeOutside ranges s stores) (sym (bytes_before b low))
        (grows side.ranges ranges (bytes_at side.opening side.log b) side.stores stores wider (c.pending b high low) agree))
        (λ (last : b ≡ length side.log + 1). subst (λ (s : Stores). AgreeOutside ranges s stores) (sym (bytes_all b last)) (same ranges stores))
        (below_or_last b side.log change within)

    -- so the side with the change is consistent
    pub consistent_grown : IsConsistent next
    consistent_grown =
        let is = state_grown stores ranges in
        let kept : (state_of next).limit ≡ (state_of side).limit = ap (λ (s : State). s.limit) is ∙ limit in
        let more : (state_of next).made ≡ (state_of side).made + 1 = ap (λ (s : State). s.made) is ∙ counted in
        record {
          stores = stores_grown;
          means = means_grown;
          made = omega (arith, more, c.made, length-append side.log (change ∷ []));
          limit = kept ∙ c.limit;
          sound = subst IsSound (sym is) (IsSound-step (state_of side) c.sound change.entry.call);
          flushed = omega (arith, c.flushed, length-append side.log (change ∷ []));
          pending = pending_grown;
        }
