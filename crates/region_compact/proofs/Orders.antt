-- A compacted region, read again: its live records, in order, and the tail behind them.
use Rattle.std.proofs.Common.{◌≡◌, ℕ, ◌+◌, ◌%◌, Bool, true, false, cond, List, [], ◌∷◌, ◌++◌, length, take, drop, replicate, refl, sym, ap, subst, ◌∙◌, arith, append_assoc, length-append, Option}
use Rattle.std.proofs.lemmas.List.{append-nil}
use Rattle.std.specs.List.{AllByRecursion}
use Rattle.var_types.proofs.Records.{has_all}
use Rattle.var_types.specs.declared.key.Key.{Key}
use Rattle.var_types.specs.declared.record.Record.{Record}
use Rattle.var_types.specs.Live.{Live, lives}
use Rattle.var_types.specs.Record.{Authenticated, is_clean, records, tail_from}
use Rattle.var_types.specs.Region.{Region, is_tail_clean, region_lives, region_records, tail_offset}
use Rattle.var_region.proofs.Read.{IsRead, read_all, read_of}
use Rattle.var_region.proofs.Stored.{IsStored, each_region}
use Rattle.var_region.proofs.Tails.{clean_from}
use Rattle.var_region.specs.NewRecord.{new_live}
use Rattle.region_compact.specs.Compacted.{compacted, copied, copies, is_kept, kept_lives, kept_of, live_room, rooms, size_after}
use Rattle.region_compact.specs.declared.replace.Replace.{Replace}
use Rattle.region_compact.specs.declared.replace.Replace.TheVariants.{None as Keep, Put, Drop}
use Rattle.region_compact.specs.Laws.{CompactionsHaveTheirSize, CompactionsKeepTheOrder, CompactionsLeaveOrder, CopiesKeepTheirHeaders, EachKeyOnce, anew, moved}
use Rattle.region_compact.specs.Replace.{IsReplaceIn, added, added_lives, added_room, replaced_key}
use Rattle.region_compact.proofs.Copied.{copied_piece, header_kept, new_piece}
use Rattle.region_compact.proofs.Distinct.{once_kept}
use Rattle.region_compact.proofs.Pieces.{AreAdded, ArePieces, Pieces, added_joined, erased_behind, joined, length_joined, lives_in, lives_joined, rooms_in, tail_joined}
use Rattle.region_compact.proofs.StoredSizes.{each_stored}

-- a live record of a region, with its record
pub record HasRecord (region : Region) (live : Live) : Type 0 where
  pub r : Record
  pub read : IsRead region.bytes live.at r
  pub stored : IsStored region.non_volatile region.bytes r live

-- each live record of a region has its record
pub with_records : (region : Region) → AllByRecursion (HasRecord region) (region_lives region)
unfolding region_lives region_records
with_records =
    each_region (λ region. AllByRecursion (HasRecord region) (region_lives region))
    (λ bytes first nv.
    each_stored nv bytes (HasRecord (record { form = Authenticated; bytes = bytes; first = first; non_volatile = nv }))
    (λ at r live here stored is.
    let read = read_of bytes at r here in
    let place : live.at ≡ at = ap (λ (l : Live). l.at) stored.same ∙ read.place in
    record { r = r; read = subst (λ n. IsRead bytes n r) (sym place) read; stored = stored })
    first (records Authenticated bytes first) (read_all bytes first (records Authenticated bytes first) (has_all Authenticated bytes first)))

-- what holds of each live record holds of those kept
pub all_kept : (P : Live → Type 0) (all : List Live) (replaced : Option Key) (ls : List Live) → AllByRecursion P ls → AllByRecursion P (kept_of all replaced ls)
all_kept P all replaced [] h = tt
all_kept P all replaced (live ∷ ls) h = by (is_kept all replaced live) (all_kept P all replaced ls h.1)
  where
    by : (kept : Bool) → AllByRecursion P (kept_of all replaced ls)
        → AllByRecursion P (cond kept (live ∷ kept_of all replaced ls) (kept_of all replaced ls))
    by true rest = (h.0, rest)
    by false rest = rest

pub CopiesKeepTheirHeaders-all : CopiesKeepTheirHeaders
CopiesKeepTheirHeaders-all region = each (region_lives region) (with_records region)
  where
    each : (ls : List Live) → AllByRecursion (HasRecord region) ls
        → AllByRecursion (λ live. take 56 (drop 4 (copied region.bytes live)) ≡ take 56 (drop (live.at + 4) region.bytes)) ls
    each [] h = tt
    each (live ∷ ls) h = (header_kept region.non_volatile region.bytes h.0.r live h.0.read h.0.stored, each ls h.1)

-- the pieces of live records
abbrev pieces_of : List ℕ → List Live → Pieces
pieces_of bytes [] = []
pieces_of bytes (live ∷ ls) = (copied bytes live, live) ∷ pieces_of bytes ls

-- and of a replacement
abbrev pieces_added : Replace → Pieces
pieces_added Keep = []
pieces_added (Put new) = (added (Put new), new_live 0 new) ∷ []
pieces_added (Drop guid name) = []

-- one list of pieces behind another
abbrev both : Pieces → Pieces → Pieces
both [] qs = qs
both (p ∷ ps) qs = p ∷ both ps qs

joined_both : (ps qs : Pieces) → joined (both ps qs) ≡ joined ps ++ joined qs
joined_both [] qs = refl
joined_both (p ∷ ps) qs = ap (λ bytes. p.0 ++ bytes) (joined_both ps qs) ∙ sym (append_assoc p.0 (joined ps) (joined qs))

lives_both : (ps qs : Pieces) → lives_in (both ps qs) ≡ lives_in ps ++ lives_in qs
lives_both [] qs = refl
lives_both (p ∷ ps) qs = ap (λ ls. p.1 ∷ ls) (lives_both ps qs)

rooms_both : (ps qs : Pieces) → rooms_in (both ps qs) ≡ rooms_in ps + rooms_in qs
rooms_both [] qs = omega arith
rooms_both (p ∷ ps) qs = omega (arith, rooms_both ps qs)

are_both : (nv : Bool) (ps qs : Pieces) → ArePieces nv ps → ArePieces nv qs → ArePieces nv (both ps qs)
are_both nv [] qs p q = q
are_both nv (x ∷ ps) qs p q = (p.0, are_both nv ps qs p.1 q)

module _ (region : Region) where
  joined_of : (ls : List Live) → joined (pieces_of region.bytes ls) ≡ copies region.bytes ls
  joined_of [] = refl
  joined_of (live ∷ ls) = ap (λ bytes. copied region.bytes live ++ bytes) (joined_of ls)

  lives_of : (ls : List Live) → lives_in (pieces_of region.bytes ls) ≡ ls
  lives_of [] = refl
  lives_of (live ∷ ls) = ap (λ rest. live ∷ rest) (lives_of ls)

  rooms_of : (ls : List Live) → rooms_in (pieces_of region.bytes ls) ≡ rooms ls
  rooms_of [] = refl
  rooms_of (live ∷ ls) = ap (λ n. live_room live + n) (rooms_of ls)

  are_of : (ls : List Live) → AllByRecursion (HasRecord region) ls → ArePieces region.non_volatile (pieces_of region.bytes ls)
  are_of [] h = tt
  are_of (live ∷ ls) h = (copied_piece region.non_volatile region.bytes h.0.r live h.0.read h.0.stored, are_of ls h.1)

  joined_added : (replace : Replace) → joined (pieces_added replace) ≡ added replace
  joined_added Keep = refl
  joined_added (Put new) = append-nil (added (Put new))
  joined_added (Drop guid name) = refl

  lives_added : (replace : Replace) → lives_in (pieces_added replace) ≡ added_lives replace
  lives_added Keep = refl
  lives_added (Put new) = refl
  lives_added (Drop guid name) = refl

  rooms_added : (replace : Replace) → rooms_in (pieces_added replace) ≡ added_room replace
  rooms_added Keep = refl
  rooms_added (Put new) = omega arith
  rooms_added (Drop guid name) = refl

  are_added : (replace : Replace) → IsReplaceIn region.non_volatile replace → ArePieces region.non_volatile (pieces_added replace)
  are_added Keep is = tt
  are_added (Put new) is = (new_piece region.non_volatile new is.0 is.1, tt)
  are_added (Drop guid name) is = tt

  module _ (replace : Replace) where
    abbrev kept : List Live
    kept = kept_lives region (replaced_key replace)

    abbrev pieces : Pieces
    pieces = both (pieces_of region.bytes kept) (pieces_added replace)

    bytes_are : joined pieces ≡ compacted region replace
    unfolding compacted
    bytes_are = joined_both (pieces_of region.bytes kept) (pieces_added replace) ∙ (λ i. joined_of kept i ++ joined_added replace i)

    lives_are : lives_in pieces ≡ kept ++ added_lives replace
    lives_are = lives_both (pieces_of region.bytes kept) (pieces_added replace) ∙ (λ i. lives_of kept i ++ lives_added replace i)

    rooms_are : rooms_in pieces ≡ size_after region replace
    unfolding size_after
    rooms_are = rooms_both (pieces_of region.bytes kept) (pieces_added replace) ∙ (λ i. rooms_of kept i + rooms_added replace i)

    are : IsReplaceIn region.non_volatile replace → ArePieces region.non_volatile pieces
    unfolding kept_lives
    are is =
        are_both region.non_volatile (pieces_of region.bytes kept) (pieces_added replace)
        (are_of kept (all_kept (HasRecord region) (region_lives region) (replaced_key replace) (region_lives region) (with_records region)))
        (are_added replace is)

    pub size_is : IsReplaceIn region.non_volatile replace → length (compacted region replace) ≡ size_after region replace
    size_is is = ap length (sym bytes_are) ∙ length_joined region.non_volatile 0 pieces (are is) ∙ rooms_are

    module _ (front : List ℕ) (left : ℕ) (is : IsReplaceIn region.non_volatile replace) (even : length front % 4 ≡ 0) where
      pub lives_anew : region_lives (anew region replace front left) ≡ moved (length front) (kept ++ added_lives replace)
      unfolding region_lives region_records
      lives_anew =
          ap (λ bytes. lives Authenticated region.non_volatile (front ++ (bytes ++ replicate left 0xFF)) (records Authenticated (front ++ (bytes ++ replicate left 0xFF)) (length front))) (sym bytes_are)
          ∙ lives_joined region.non_volatile left pieces (are is) front even
          ∙ ap (moved (length front)) lives_are

      -- its records are ADDED ones alone
      pub added_anew : AreAdded region.non_volatile (anew region replace front left).bytes (region_records (anew region replace front left)) (length (kept ++ added_lives replace))
      unfolding region_records
      added_anew =
          subst (λ bytes. AreAdded region.non_volatile (front ++ (bytes ++ replicate left 0xFF)) (records Authenticated (front ++ (bytes ++ replicate left 0xFF)) (length front)) (length (kept ++ added_lives replace))) bytes_are
          (subst (λ ls. AreAdded region.non_volatile (front ++ (joined pieces ++ replicate left 0xFF)) (records Authenticated (front ++ (joined pieces ++ replicate left 0xFF)) (length front)) (length ls)) lives_are
          (added_joined region.non_volatile left pieces (are is) front even))

      pub tail_anew : tail_offset (anew region replace front left) ≡ length front + size_after region replace
      unfolding tail_offset region_records
      tail_anew =
          ap (λ bytes. tail_from Authenticated (length front) (records Authenticated (front ++ (bytes ++ replicate left 0xFF)) (length front))) (sym bytes_are)
          ∙ tail_joined region.non_volatile left pieces (are is) front even
          ∙ ap (λ n. length front + n) rooms_are

      pub clean_anew : is_tail_clean (anew region replace front left) ≡ true
      unfolding is_tail_clean
      clean_anew =
          let whole = front ++ compacted region replace in
          let place : length front + size_after region replace ≡ length whole = omega (arith, length-append front (compacted region replace), size_is is) in
          ap (is_clean (front ++ (compacted region replace ++ replicate left 0xFF))) (tail_anew ∙ place)
          ∙ ap (λ bytes. is_clean bytes (length whole)) (sym (append_assoc front (compacted region replace) (replicate left 0xFF)))
          ∙ clean_from (whole ++ replicate left 0xFF) (length whole) (erased_behind region.non_volatile left whole)

pub CompactionsHaveTheirSize-all : CompactionsHaveTheirSize
CompactionsHaveTheirSize-all region replace is = size_is region replace is

pub CompactionsKeepTheOrder-all : CompactionsKeepTheOrder
CompactionsKeepTheOrder-all region replace front left is even = lives_anew region replace front left is even

pub CompactionsLeaveOrder-all : CompactionsLeaveOrder
CompactionsLeaveOrder-all region replace front left is even = record {
  once = subst EachKeyOnce (sym (lives_anew region replace front left is even)) (once_kept region replace (length front));
  offset = tail_anew region replace front left is even;
  clean = clean_anew region replace front left is even;
}
