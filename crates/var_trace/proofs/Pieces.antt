-- The pieces of a change that was made in some ranges of a store.
use Rattle.std.proofs.Common.{◌≡◌, ℕ, zero, suc, ◌+◌, ◌-◌, ◌≤◌, ◌<◌, ◌⊎◌, Bool, List, [], ◌∷◌, ◌++◌, length, take, drop, get_or, map, All, refl, sym, ap, subst, ◌∙◌, inl, inr, ⊎_elim, arith, length-append, length-drop, length-take}
use Rattle.std.proofs.lemmas.Bool.{cases_lt}
use Rattle.std.proofs.lemmas.List.{get_or-append_right, get_or-drop, get_or-take, get_or_append_left}
use Rattle.std.proofs.lemmas.List.Elements.{All-cons, All-nil}
use Rattle.var_types.specs.declared.span.Span.{Span}
use Rattle.var_types.specs.declared.store.Store.{Store}
use Rattle.var_types.specs.declared.store.Store.TheVariants.{NonVolatile, Volatile}
use Rattle.var_types.specs.Placed.{placed}
use Rattle.var_types.specs.Spans.{AreWithin, IsInside, IsWritten, cut, pasted}
use Rattle.var_types.specs.Stores.{Stores, bytes_in, with_store}
use Rattle.var_trace.specs.declared.piece.Piece.{Piece}
use Rattle.var_trace.specs.Pieces.{IsWithin, piece_of, refreshed, with_change, with_piece, with_pieces}

-- a range has as many bytes as it is long
pub length-cut : (span : Span) (bytes : List ℕ) → span.from ≤ span.to → span.to ≤ length bytes → length (cut span bytes) ≡ span.to - span.from
length-cut span bytes order within =
    omega (arith, length-take (span.to - span.from) (drop span.from bytes), length-drop span.from bytes)

-- the pieces of a store's bytes lie within them
pub All-pieces : (store : Store) (spans : List Span) (bytes : List ℕ) → AreWithin spans (length bytes)
    → All (IsWithin (length bytes)) (map (piece_of store bytes) spans)
All-pieces store [] bytes within = All-nil (IsWithin (length bytes))
All-pieces store (span ∷ spans) bytes within =
    All-cons (IsWithin (length bytes)) (piece_of store bytes span) (map (piece_of store bytes) spans)
    (omega (arith, length-cut span bytes within.0 within.1.0, within.0, within.1.0)) (All-pieces store spans bytes within.1.1)

-- a piece of the old bytes that takes the new ones is one of the new bytes
refreshed-piece : (store : Store) (span : Span) (old new : List ℕ) → span.from ≤ span.to → span.to ≤ length old
    → refreshed new (piece_of store old span) ≡ piece_of store new span
refreshed-piece store span old new order within =
    ap (λ (n : ℕ). let p : Piece = record { store = store; at = span.from; bytes = take n (drop span.from new) } in p) (length-cut span old order within)

pub refreshed-pieces : (store : Store) (spans : List Span) (old new : List ℕ) → AreWithin spans (length old)
    → map (refreshed new) (map (piece_of store old) spans) ≡ map (piece_of store new) spans
refreshed-pieces store [] old new within = refl
refreshed-pieces store (span ∷ spans) old new within = λ i.
    refreshed-piece store span old new within.0 within.1.0 i ∷ refreshed-pieces store spans old new within.1.1 i

-- a store is its bytes
with_store-same : (store : Store) (stores : Stores) → with_store stores store (bytes_in stores store) ≡ stores
with_store-same NonVolatile stores = refl
with_store-same Volatile stores = refl

-- bytes that are put in the place of others are the store's
bytes_in-with_store : (store : Store) (stores : Stores) (bytes : List ℕ) → bytes_in (with_store stores store bytes) store ≡ bytes
bytes_in-with_store NonVolatile stores bytes = refl
bytes_in-with_store Volatile stores bytes = refl

with_store-twice : (store : Store) (stores : Stores) (one other : List ℕ)
    → with_store (with_store stores store one) store other ≡ with_store stores store other
with_store-twice NonVolatile stores one other = refl
with_store-twice Volatile stores one other = refl

-- pieces of the new bytes, written over a store, paste these bytes into it
with_pieces-pasted : (store : Store) (new : List ℕ) (spans : List Span) (stores : Stores)
    → with_pieces stores (map (piece_of store new) spans) ≡ with_store stores store (pasted spans new (bytes_in stores store))
unfolding with_piece
with_pieces-pasted store new [] stores = sym (with_store-same store stores)
with_pieces-pasted store new (span ∷ spans) stores =
    let bytes = placed span.from (cut span new) (bytes_in stores store) in
    let next = with_store stores store bytes in
    with_pieces-pasted store new spans next
    ∙ ap (λ (bs : List ℕ). with_store next store (pasted spans new bs)) (bytes_in-with_store store stores bytes)
    ∙ with_store-twice store stores bytes (pasted spans new bytes)

-- pieces that took the new bytes make the change
pub change_made : (store : Store) (spans : List Span) (old new : List ℕ) (stores : Stores) (phase : Bool) → AreWithin spans (length old)
    → IsWritten spans old new → bytes_in stores store ≡ old
    → with_change stores (record { pieces = map (refreshed new) (map (piece_of store old) spans); phase = phase })
    ≡ record (with_store stores store new) { runtime = phase }
unfolding with_change
change_made store spans old new stores phase within written is =
    ap (λ (s : Stores). let t : Stores = record s { runtime = phase } in t)
    (ap (with_pieces stores) (refreshed-pieces store spans old new within)
    ∙ with_pieces-pasted store new spans stores
    ∙ ap (λ (bs : List ℕ). with_store stores store (pasted spans new bs)) is
    ∙ ap (with_store stores store) written.pasted)

-- bytes before and behind a place stay where others are written there
module _ (from : ℕ) (bytes old : List ℕ) (within : from + length bytes ≤ length old) where
  pub length-placed : length (placed from bytes old) ≡ length old
  unfolding placed
  length-placed =
      omega (
        arith,
        length-append (take from old) (bytes ++ drop (from + length bytes) old),
        length-append bytes (drop (from + length bytes) old),
        length-take from old,
        length-drop (from + length bytes) old,
      )

  pub get-placed : (at : ℕ) → (at < from) ⊎ (from + length bytes ≤ at) → get_or (placed from bytes old) at 0 ≡ get_or old at 0
  unfolding placed
  get-placed at outside = ⊎_elim before behind outside
    where
      len : length (take from old) ≡ from
      len = omega (arith, length-take from old)

      before : at < from → get_or (take from old ++ (bytes ++ drop (from + length bytes) old)) at 0 ≡ get_or old at 0
      before low =
          get_or_append_left (take from old) (bytes ++ drop (from + length bytes) old) 0 at (omega (arith, len)) ∙ get_or-take from old at 0 low

      behind : from + length bytes ≤ at → get_or (take from old ++ (bytes ++ drop (from + length bytes) old)) at 0 ≡ get_or old at 0
      behind high =
          get_or-append_right (take from old) (bytes ++ drop (from + length bytes) old) from at 0 len (omega arith)
          ∙ get_or-append_right bytes (drop (from + length bytes) old) (length bytes) (at - from) 0 refl (omega arith)
          ∙ get_or-drop (from + length bytes) old ((at - from) - length bytes) 0
          ∙ ap (λ (n : ℕ). get_or old n 0) (let e : from + length bytes + ((at - from) - length bytes) ≡ at = omega arith in e)

-- an offset outside of a range is before or behind it
outside_range : (span : Span) (at : ℕ) → ((span.from ≤ at) × (at < span.to) → ⊥) → span.from ≤ span.to → (at < span.from) ⊎ (span.to ≤ at)
outside_range span at out order = ⊎_elim inl (λ high. inr (⊎_elim (λ low. absurd (out (high, low))) (λ there. there) (cases_lt at span.to))) (cases_lt at span.from)

-- what is pasted in some ranges stays everywhere else
pub get-pasted : (spans : List Span) (old new : List ℕ) (at : ℕ) → length new ≡ length old → AreWithin spans (length old)
    → (IsInside at spans → ⊥) → get_or (pasted spans new old) at 0 ≡ get_or old at 0
get-pasted [] old new at same within out = refl
get-pasted (span ∷ spans) old new at same within out =
    let order : span.from ≤ span.to = within.0 in
    let last : span.to ≤ length old = within.1.0 in
    let as_long : length (cut span new) ≡ span.to - span.from = length-cut span new order (omega arith) in
    let fits : span.from + length (cut span new) ≤ length old = omega arith in
    let next = placed span.from (cut span new) old in
    let size : length next ≡ length old = length-placed span.from (cut span new) old fits in
    let apart = outside_range span at (λ inside. out (inl inside)) order in
    get-pasted spans next new at (same ∙ sym size) (subst (AreWithin spans) (sym size) within.1.1) (λ inside. out (inr inside))
    ∙ get-placed span.from (cut span new) old fits at (⊎_elim inl (λ (high : span.to ≤ at). inr (omega arith)) apart)

-- the range at an index ends where it begins or behind that, and within the bytes
pub within_at : (spans : List Span) (size i : ℕ) (d : Span) → AreWithin spans size → i < length spans
    → ((get_or spans i d).from ≤ (get_or spans i d).to) × ((get_or spans i d).to ≤ size)
within_at [] size i d within h = absurd (omega arith)
within_at (span ∷ spans) size zero d within h = (within.0, within.1.0)
within_at (span ∷ spans) size (suc i) d within h = within_at spans size i d within.1.1 (omega arith)
