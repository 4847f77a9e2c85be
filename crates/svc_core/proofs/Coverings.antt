-- Ranges that cover the pieces of a change: the stores before it agree with those behind it everywhere else.
use Rattle.std.proofs.Common.{◌≡◌, ℕ, ◌+◌, ◌≤◌, ◌<◌, ◌⊎◌, Bool, List, [], ◌∷◌, ◌++◌, length, All, refl, sym, ap, subst, ◌∙◌, inl, inr, ⊎_elim, arith}
use Rattle.std.proofs.lemmas.Bool.{cases_lt}
use Rattle.std.proofs.lemmas.List.Elements.{All-head, All-tail}
use Rattle.std.specs.Prelude.{slice_index}
use Rattle.pending_range.proofs.Covers.{extended_covers, extended_wider}
use Rattle.pending_range.specs.declared.ranges.Ranges.{Ranges}
use Rattle.pending_range.specs.Ranges.{AgreeOutside, IsCovered, IsWider, extended}
use Rattle.var_trace.proofs.Pieces.{get-placed, length-placed}
use Rattle.var_trace.specs.declared.piece.Piece.{Piece}
use Rattle.var_trace.specs.Pieces.{with_change, with_piece, with_pieces}
use Rattle.var_trace.specs.StoreChange.{StoreChange}
use Rattle.var_types.specs.declared.store.Store.{Store}
use Rattle.var_types.specs.declared.store.Store.TheVariants.{NonVolatile, Volatile}
use Rattle.var_types.specs.Placed.{placed}
use Rattle.var_types.specs.Stores.{HaveSizes, Stores, bytes_in, with_store}
use Rattle.svc_core.specs.Plan.{IsInStore, store_size}
use Rattle.svc_core.specs.Ranges.{covering}

-- stores agree with themselves
pub agree_same : (ranges : Ranges) (stores : Stores) → AgreeOutside ranges stores stores
agree_same ranges stores = record { sizes = λ store. refl; outside = λ store at out. refl }

-- stores that agree outside of ranges agree outside of wider ones with those that those agree with there
pub agree_more : (old new : Ranges) (a b c : Stores) → IsWider old new → AgreeOutside old a b → AgreeOutside new b c → AgreeOutside new a c
agree_more old new a b c wide first second = record {
  sizes = λ store. first.sizes store ∙ second.sizes store;
  outside = λ store at out. first.outside store at (λ covered. out (wide.wider store at covered)) ∙ second.outside store at out;
}

-- ranges that are wider than those that are wider
wider_more : (a b c : Ranges) → IsWider a b → IsWider b c → IsWider a c
wider_more a b c first second = record { wider = λ store at covered. second.wider store at (first.wider store at covered) }

-- ranges that cover pieces too are wider
pub wider_covering : (ranges : Ranges) (pieces : List Piece) → IsWider ranges (covering ranges pieces)
unfolding covering
wider_covering ranges [] = record { wider = λ store at covered. covered }
wider_covering ranges (piece ∷ pieces) =
    let next = extended ranges piece.store piece.at (piece.at + length piece.bytes) in
    wider_more ranges next (covering next pieces) (extended_wider ranges piece.store piece.at (piece.at + length piece.bytes)) (wider_covering next pieces)

-- as many bytes as the stores have
size_of : (stores : Stores) → HaveSizes stores → (store : Store) → length (bytes_in stores store) ≡ store_size store
size_of stores sizes NonVolatile = sizes.non_volatile
size_of stores sizes Volatile = sizes.volatile

module _ (stores : Stores) (sizes : HaveSizes stores) (piece : Piece) (inside : IsInStore piece) where
  abbrev old : List ℕ
  old = bytes_in stores piece.store

  fits : piece.at + length piece.bytes ≤ length old
  fits = omega (arith, size_of stores sizes piece.store, inside)

  -- a piece that is written keeps the sizes
  sizes_piece : HaveSizes (with_piece stores piece)
  unfolding with_piece
  sizes_piece = by piece.store refl
    where
      kept : length (placed piece.at piece.bytes old) ≡ length old
      kept = length-placed piece.at piece.bytes old fits

      by : (store : Store) → piece.store ≡ store → HaveSizes (with_store stores store (placed piece.at piece.bytes old))
      by NonVolatile e = record {
        non_volatile = kept ∙ ap (λ (s : Store). length (bytes_in stores s)) e ∙ sizes.non_volatile;
        volatile = sizes.volatile;
      }
      by Volatile e = record {
        non_volatile = sizes.non_volatile;
        volatile = kept ∙ ap (λ (s : Store). length (bytes_in stores s)) e ∙ sizes.volatile;
      }

  abbrev new : List ℕ
  new = placed piece.at piece.bytes old

  len : length new ≡ length old
  len = length-placed piece.at piece.bytes old fits

  module _ (ranges : Ranges) where
    abbrev wide : Ranges
    wide = extended ranges piece.store piece.at (piece.at + length piece.bytes)

    apart : (at : ℕ) → (IsCovered wide piece.store at → ⊥) → (at < piece.at) ⊎ (piece.at + length piece.bytes ≤ at)
    apart at out =
        ⊎_elim (λ (low : at < piece.at). inl low)
        (λ (from : piece.at ≤ at). inr
        (⊎_elim
        (λ (to : at < piece.at + length piece.bytes).
        absurd (out (extended_covers ranges piece.store piece.at (piece.at + length piece.bytes) at from to)))
        (λ (high : piece.at + length piece.bytes ≤ at). high) (cases_lt at (piece.at + length piece.bytes))))
        (cases_lt at piece.at)

    here : (at : ℕ) → (IsCovered wide piece.store at → ⊥) → slice_index old at ≡ slice_index new at
    here at out = sym (get-placed piece.at piece.bytes old fits at (apart at out))

    len_by : (store other : Store) → piece.store ≡ store → length (bytes_in stores other) ≡ length (bytes_in (with_store stores store new) other)
    len_by NonVolatile NonVolatile e = ap (λ (s : Store). length (bytes_in stores s)) (sym e) ∙ sym len
    len_by NonVolatile Volatile e = refl
    len_by Volatile NonVolatile e = refl
    len_by Volatile Volatile e = ap (λ (s : Store). length (bytes_in stores s)) (sym e) ∙ sym len

    outside_by : (store other : Store) → piece.store ≡ store → (at : ℕ) → (IsCovered wide other at → ⊥)
        → slice_index (bytes_in stores other) at ≡ slice_index (bytes_in (with_store stores store new) other) at
    outside_by NonVolatile NonVolatile e at out =
        ap (λ (s : Store). slice_index (bytes_in stores s) at) (sym e)
        ∙ here at (λ covered. out (subst (λ (s : Store). IsCovered wide s at) e covered))
    outside_by NonVolatile Volatile e at out = refl
    outside_by Volatile NonVolatile e at out = refl
    outside_by Volatile Volatile e at out =
        ap (λ (s : Store). slice_index (bytes_in stores s) at) (sym e)
        ∙ here at (λ covered. out (subst (λ (s : Store). IsCovered wide s at) e covered))

    -- and changes nothing outside of its place
    agree_piece : AgreeOutside wide stores (with_piece stores piece)
    unfolding with_piece
    agree_piece = record { sizes = λ other. len_by piece.store other refl; outside = λ other at out. outside_by piece.store other refl at out }

-- the same of pieces, one after the other
sizes_pieces : (stores : Stores) (pieces : List Piece) → HaveSizes stores → All IsInStore pieces → HaveSizes (with_pieces stores pieces)
sizes_pieces stores [] sizes inside = sizes
sizes_pieces stores (piece ∷ pieces) sizes inside =
    sizes_pieces (with_piece stores piece) pieces (sizes_piece stores sizes piece (All-head IsInStore piece pieces inside))
    (All-tail IsInStore piece pieces inside)

agree_pieces : (ranges : Ranges) (stores : Stores) (pieces : List Piece) → HaveSizes stores → All IsInStore pieces
    → AgreeOutside (covering ranges pieces) stores (with_pieces stores pieces)
unfolding covering
agree_pieces ranges stores [] sizes inside = agree_same ranges stores
agree_pieces ranges stores (piece ∷ pieces) sizes inside =
    let first = All-head IsInStore piece pieces inside in
    let next = extended ranges piece.store piece.at (piece.at + length piece.bytes) in
    agree_more next (covering next pieces) stores (with_piece stores piece) (with_pieces (with_piece stores piece) pieces) (wider_covering next pieces)
    (agree_piece stores sizes piece first ranges)
    (agree_pieces next (with_piece stores piece) pieces (sizes_piece stores sizes piece first) (All-tail IsInStore piece pieces inside))

-- another phase changes no bytes
same_bytes : (stores : Stores) (phase : Bool) (store : Store) → bytes_in stores store ≡ bytes_in (record stores { runtime = phase }) store
same_bytes stores phase NonVolatile = refl
same_bytes stores phase Volatile = refl

-- stores behind a change have their sizes
pub sizes_change : (stores : Stores) (change : StoreChange) → HaveSizes stores → All IsInStore change.pieces → HaveSizes (with_change stores change)
unfolding with_change
sizes_change stores change sizes inside =
    let next = sizes_pieces stores change.pieces sizes inside in record { non_volatile = next.non_volatile; volatile = next.volatile }

-- and agree with those before it outside of ranges that cover its pieces
pub agree_change : (ranges : Ranges) (stores : Stores) (change : StoreChange) → HaveSizes stores → All IsInStore change.pieces
    → AgreeOutside (covering ranges change.pieces) stores (with_change stores change)
unfolding with_change
agree_change ranges stores change sizes inside =
    let next = agree_pieces ranges stores change.pieces sizes inside in
    record {
      sizes = λ store. next.sizes store ∙ ap length (same_bytes (with_pieces stores change.pieces) change.phase store);
      outside = λ store at out.
          next.outside store at out ∙ ap (λ (bytes : List ℕ). slice_index bytes at) (same_bytes (with_pieces stores change.pieces) change.phase store);
    }

-- ranges that cover one piece more
pub covering_more : (ranges : Ranges) (pieces : List Piece) (piece : Piece)
    → covering ranges (pieces ++ piece ∷ []) ≡ extended (covering ranges pieces) piece.store piece.at (piece.at + length piece.bytes)
unfolding covering
covering_more ranges [] piece = refl
covering_more ranges (p ∷ pieces) piece = covering_more (extended ranges p.store p.at (p.at + length p.bytes)) pieces piece

pub covering_none : (ranges : Ranges) → covering ranges [] ≡ ranges
unfolding covering
covering_none ranges = refl

-- one piece more is written
pub with_pieces-more : (stores : Stores) (pieces : List Piece) (piece : Piece)
    → with_pieces stores (pieces ++ piece ∷ []) ≡ with_piece (with_pieces stores pieces) piece
with_pieces-more stores [] piece = refl
with_pieces-more stores (p ∷ pieces) piece = with_pieces-more (with_piece stores p) pieces piece
