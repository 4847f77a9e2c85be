-- How a change enters the books.
use Rattle.std.proofs.Common.{◌≡◌, ℕ, zero, suc, ◌+◌, ◌≤◌, ◌<◌, ◌⊎◌, List, [], ◌∷◌, ◌++◌, length, drop, get_or, map, All, sym, ap, subst, ◌∙◌, arith}
use Rattle.std.proofs.lemmas.List.Elements.{All-cons, All-nil}
use Rattle.mm_writer.specs.Books.{Enters, IsPrepared}
use Rattle.mm_writer.specs.declared.books.Books.{Books}
use Rattle.mm_writer.specs.Side.{IsInStore}
use Rattle.pending_range.specs.declared.ranges.Ranges.{Ranges}
use Rattle.pending_range.specs.Ranges.{IsCovered, IsWider}
use Rattle.var_trace.proofs.Pieces.{length-cut, refreshed-pieces}
use Rattle.var_trace.specs.Laws.{SpansMakeTheChange, WrittenSpansChangeNothingElse}
use Rattle.var_trace.specs.Pieces.{piece_of, refreshed, with_change}
use Rattle.var_trace.specs.StoreChange.{StoreChange}
use Rattle.var_types.specs.declared.span.Span.{Span}
use Rattle.var_types.specs.declared.store.Store.{Store}
use Rattle.var_types.specs.declared.store.Store.TheVariants.{NonVolatile, Volatile}
use Rattle.var_types.specs.History.{Entry}
use Rattle.var_types.specs.Spans.{AreWithin, IsInside}
use Rattle.var_types.specs.Stores.{Stores, bytes_in, with_store}

-- an offset in one of the ranges from an index on is in the range there, or in one behind it
pub inside_next : (at : ℕ) (spans : List Span) (i : ℕ) (d : Span) → i < length spans → IsInside at (drop i spans)
    → (((get_or spans i d).from ≤ at) × (at < (get_or spans i d).to)) ⊎ IsInside at (drop (i + 1) spans)
inside_next at [] i d h inside = absurd (omega arith)
inside_next at (span ∷ spans) zero d h inside = inside
inside_next at (span ∷ spans) (suc i) d h inside =
    let next : suc i + 1 ≡ suc (i + 1) = omega arith in
    subst (λ (n : ℕ). (((get_or spans i d).from ≤ at) × (at < (get_or spans i d).to)) ⊎ IsInside at (drop n (span ∷ spans))) (sym next)
    (inside_next at spans i d (omega arith) inside)

-- ranges cover what they did, and then more
pub wider_both : (a b c : Ranges) → IsWider a b → IsWider b c → IsWider a c
wider_both a b c first second = record { wider = λ store at covered. second.wider store at (first.wider store at covered) }

pub wider_none : (a : Ranges) → IsWider a a
wider_none a = record { wider = λ store at covered. covered }

-- stores of a phase are as they are with that phase
same_phase : (stores : Stores) (store : Store) (bytes : List ℕ) (phase : _) → stores.runtime ≡ phase
    → record (with_store stores store bytes) { runtime = phase } ≡ with_store stores store bytes
same_phase stores NonVolatile bytes phase is = ap (λ p. let s : Stores = record stores { non_volatile = bytes; runtime = p } in s) (sym is)
same_phase stores Volatile bytes phase is = ap (λ p. let s : Stores = record stores { volatile = bytes; runtime = p } in s) (sym is)

-- the pieces of a store's new bytes lie within it, since it has as many as before
inside_pieces : (stores : Stores) (store : Store) (spans : List Span) (old new : List ℕ) → bytes_in stores store ≡ old → AreWithin spans (length old)
    → length new ≡ length old → All (IsInStore stores) (map (piece_of store new) spans)
inside_pieces stores store [] old new of within len = All-nil (IsInStore stores)
inside_pieces stores store (span ∷ spans) old new of within len =
    let low : span.to ≤ length new = omega (arith, within.1.0, len) in
    All-cons (IsInStore stores) (piece_of store new span) (map (piece_of store new) spans)
    (omega (arith, length-cut span new within.0 low, within.0, within.1.0, ap length of)) (inside_pieces stores store spans old new of within.1.1 len)

module _ (makes : SpansMakeTheChange) (others : WrittenSpansChangeNothingElse) (store : Store) (spans : List Span) (old new : List ℕ) (delta : StoreChange) (entry : Entry) (before after : Books) (prepared : IsPrepared store spans old new before.runtime delta) where
  -- the books after a prepared change was refreshed, its ranges were covered, and it was pushed
  pub entered : (change : StoreChange) → change ≡ record delta { pieces = map (refreshed new) delta.pieces }
      → after.trace ≡ record before.trace { log = before.trace.log ++ record { entry = entry; delta = change } ∷ [] } → after.runtime ≡ before.runtime
      → after.flushed ≡ before.flushed → IsWider before.ranges after.ranges → ((at : ℕ) → IsInside at spans → IsCovered after.ranges store at)
      → Enters store old new entry before after
  entered change is pushed runtime flushed wider covers =
      let made : change ≡ record { pieces = map (refreshed new) (map (piece_of store old) spans); phase = before.runtime } =
      is ∙ ap (λ (d : StoreChange). let c : StoreChange = record d { pieces = map (refreshed new) d.pieces } in c) prepared.is in
      record {
        change = change;
        trace = pushed;
        writes = λ stores of phase.
            ap (with_change stores) made ∙ makes store spans old new stores before.runtime prepared.within prepared.written of
            ∙ same_phase stores store new before.runtime phase;
        inside = λ stores of.
            subst (λ (d : StoreChange). All (IsInStore stores) d.pieces) (sym made)
            (subst (All (IsInStore stores)) (sym (refreshed-pieces store spans old new prepared.within))
            (inside_pieces stores store spans old new of prepared.within prepared.written.len));
        runtime = runtime;
        flushed = flushed;
        wider = wider;
        len = prepared.written.len;
        covered = λ at out. others spans old new at prepared.within prepared.written (λ inside. out (covers at inside));
      }
