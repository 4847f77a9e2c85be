-- A live record's copy is a piece, and so is a new record.
use Rattle.std.proofs.Common.{◌≡◌, ℕ, ◌+◌, ◌*◌, ◌-◌, ◌≤◌, not, Bool, true, false, List, [], ◌∷◌, ◌++◌, length, take, drop, refl, sym, ap, ◌∙◌, arith, append_assoc, length-append, length-drop, length-take-le}
use Rattle.std.proofs.lemmas.List.{drop-append-le, drop-drop, drop-take, length-replicate, take-append-le, take-take}
use Rattle.var_header.proofs.Fronts.{same_header}
use Rattle.var_header.proofs.Headers.{read_again, start_id_again}
use Rattle.var_header.specs.declared.header.Header.{Header}
use Rattle.var_header.specs.Header.{has_start_id, header_bytes, header_of}
use Rattle.var_types.specs.declared.record.Record.{Record}
use Rattle.var_types.specs.declared.record_state.RecordState.TheVariants.{Added}
use Rattle.var_types.specs.Live.{Live, data_bytes, name_in}
use Rattle.var_types.specs.Record.{Authenticated, is_bare, whole_size}
use Rattle.var_types.specs.Room.{align4}
use Rattle.var_region.proofs.Appends.{data_stands, name_stands, of_store}
use Rattle.var_region.proofs.Begun.{full_new}
use Rattle.var_region.proofs.Marks.{full_restated}
use Rattle.var_region.proofs.Names.{name_again}
use Rattle.var_region.proofs.NewRecords.{IsHeader-new, length-new_bytes}
use Rattle.var_region.proofs.Read.{IsRead}
use Rattle.var_region.proofs.Stored.{IsStored, live_with}
use Rattle.var_region.specs.declared.new_record.NewRecord.{NewRecord}
use Rattle.var_region.specs.NewRecord.{IsNew, IsOfStore, new_body, new_bytes, new_header, new_live, new_size}
use Rattle.region_compact.specs.Compacted.{copied, live_size}
use Rattle.region_compact.specs.Replace.{gap}
use Rattle.region_compact.proofs.Pieces.{IsPiece}
use Rattle.region_compact.proofs.StoredSizes.{stored_size}

-- a part of the first bytes of some that are copied
part : (m n k : ℕ) (xs more : List ℕ) → m + n ≤ k → k ≤ length xs → take n (drop m (take k xs ++ more)) ≡ take n (drop m xs)
part m n k xs more within few =
    let long : length (take k xs) ≡ k = length-take-le k xs few in
    let sum : m + (k - m) ≡ k = omega arith in
    let left : drop m (take k xs) ≡ take (k - m) (drop m xs) = ap (λ j. drop m (take j xs)) (sym sum) ∙ drop-take m (k - m) xs in
    ap (take n) (drop-append-le m (take k xs) more (omega arith) ∙ ap (λ bytes. bytes ++ more) left)
    ∙ take-append-le n (take (k - m) (drop m xs)) more (omega (arith, length-take-le (k - m) (drop m xs) (omega (arith, length-drop m xs))))
    ∙ take-take n (k - m) (drop m xs) (omega arith)

-- a header whose first four bytes are those of an ADDED record
header_copied : (xs : List ℕ) → 4 ≤ length xs → header_of (0xAA ∷ 0x55 ∷ 0x3F ∷ 0 ∷ drop 4 xs) ≡ record (header_of xs) { state = 0x3F }
unfolding header_of
header_copied [] h = absurd (omega arith)
header_copied (a ∷ []) h = absurd (omega arith)
header_copied (a ∷ b ∷ []) h = absurd (omega arith)
header_copied (a ∷ b ∷ c ∷ []) h = absurd (omega arith)
header_copied (a ∷ b ∷ c ∷ d ∷ rest) h = refl

-- four bytes and more begin alike where the more does
four_more : (xs ys : List ℕ) → take 56 xs ≡ take 56 ys → take 60 (0xAA ∷ 0x55 ∷ 0x3F ∷ 0 ∷ xs) ≡ take 60 (0xAA ∷ 0x55 ∷ 0x3F ∷ 0 ∷ ys)
four_more xs ys e = ap (λ (rest : List ℕ). 0xAA ∷ 0x55 ∷ 0x3F ∷ 0 ∷ rest) e

-- the gap fills a record's room
length_gap : (size : ℕ) → size + length (gap size) ≡ align4 size
length_gap size = omega (arith, length-replicate {A = ℕ} (align4 size - size) 0xFF)

module _ (non_volatile : Bool) (bytes : List ℕ) (r : Record) (live : Live) (read : IsRead bytes live.at r) (stored : IsStored non_volatile bytes r live) where
  abbrev size : ℕ
  size = live_size live

  abbrev h : Header
  h = record r.header { state = 0x3F }

  abbrev tail : List ℕ
  tail = drop (live.at + 4) bytes

  size_is : live_size live ≡ whole_size Authenticated r.header
  size_is = stored_size non_volatile bytes live.at r live read stored

  few : size - 4 ≤ length tail
  few = let fits = read.fits stored.whole in let same = size_is in omega (arith, length-drop (live.at + 4) bytes)

  -- what follows the first four bytes
  behind : (rest : List ℕ) → copied bytes live ++ rest ≡ 0xAA ∷ 0x55 ∷ 0x3F ∷ 0 ∷ (take (size - 4) tail ++ (gap size ++ rest))
  unfolding copied
  behind rest = ap (λ (more : List ℕ). 0xAA ∷ 0x55 ∷ 0x3F ∷ 0 ∷ more) (append_assoc (take (size - 4) tail) (gap size) rest)

  -- a part behind the header is as it was
  same_part : (m n : ℕ) (rest : List ℕ) → 60 + m + n ≤ size → take n (drop (60 + m) (copied bytes live ++ rest)) ≡ take n (drop (live.at + 60 + m) bytes)
  same_part m n rest within =
      let far : live.at + 4 + (56 + m) ≡ live.at + 60 + m = omega arith in
      let sixty : 60 + m ≡ 4 + (56 + m) = omega arith in
      ap (λ k. take n (drop k (copied bytes live ++ rest))) sixty
      ∙ ap (take n) (sym (drop-drop (56 + m) 4 (copied bytes live ++ rest)) ∙ ap (λ all. drop (56 + m) (drop 4 all)) (behind rest))
      ∙ part (56 + m) n (size - 4) tail (gap size ++ rest) (omega arith) few
      ∙ ap (take n) (drop-drop (56 + m) (live.at + 4) bytes ∙ ap (λ k. drop k bytes) far)

  reads : (rest : List ℕ) → header_of (copied bytes live ++ rest) ≡ h
  reads rest =
      let ys = drop live.at bytes in
      let room = read.room in
      let same = size_is in
      let four : drop 4 ys ≡ tail = drop-drop 4 live.at bytes in
      let front : take 56 (take (size - 4) tail ++ (gap size ++ rest)) ≡ take 56 (drop 4 ys) =
      part 0 56 (size - 4) tail (gap size ++ rest) (omega arith) few ∙ ap (take 56) (sym four) in
      ap header_of (behind rest)
      ∙ same_header (0xAA ∷ 0x55 ∷ 0x3F ∷ 0 ∷ (take (size - 4) tail ++ (gap size ++ rest))) (0xAA ∷ 0x55 ∷ 0x3F ∷ 0 ∷ drop 4 ys)
      (four_more (take (size - 4) tail ++ (gap size ++ rest)) (drop 4 ys) front)
      ∙ header_copied ys (omega (arith, length-drop live.at bytes))
      ∙ ap (λ (found : Header). record found { state = 0x3F }) (sym read.header)

  started : (rest : List ℕ) → has_start_id (copied bytes live ++ rest) ≡ true
  unfolding copied has_start_id
  started rest = refl

  -- the header behind its first four bytes is as it was
  pub header_kept : take 56 (drop 4 (copied bytes live)) ≡ take 56 tail
  unfolding copied
  header_kept = let same = size_is in part 0 56 (size - 4) tail (gap size) (omega arith) few

  length_copied : length (copied bytes live) ≡ align4 size
  unfolding copied
  length_copied =
      let same = size_is in
      omega (arith, length-append (take (size - 4) tail) (gap size), length-take-le (size - 4) tail few, length_gap size)

  -- a live record's copy is a piece
  pub copied_piece : IsPiece non_volatile (copied bytes live) live
  copied_piece =
      let same = size_is in
      let place = read.place in
      let fits = read.fits stored.whole in
      let full : is_bare r.header ≡ false = read.bare ∙ ap not stored.whole in
      let at : live.at ≡ r.at = ap (λ (l : Live). l.at) stored.same in
      let near : live.at + 60 + 0 ≡ r.at + 60 = omega arith in
      let held : live.variable.bytes ≡ data_bytes Authenticated bytes r = ap (λ (l : Live). l.variable.bytes) stored.same in
      let data_at : live.at + 60 + r.header.name_size ≡ r.at + 60 + r.header.name_size = omega arith in
      record {
        header = h;
        started = started;
        reads = reads;
        full = full_restated r.header 0x3F full (λ e. cc);
        state = refl;
        stored = stored.stored;
        size = sym same;
        room = length_copied;
        named = λ rest.
            ap (λ found. name_in found r.header.name_size)
            (same_part 0 r.header.name_size rest (omega arith) ∙ ap (λ k. take r.header.name_size (drop k bytes)) near)
            ∙ stored.named;
        payload = λ rest.
            same_part r.header.name_size r.header.data_size rest (omega arith)
            ∙ ap (λ k. take r.header.data_size (drop k bytes)) data_at
            ∙ sym held;
        same = ap (λ (l : Live). record l { at = live.at; state = Added }) stored.same
            ∙ ap (λ found. live_with (record { at = live.at; header = h; whole = true }) live.key.name found Added) (sym held);
      }

-- a new record is a piece, with the gap behind it
module _ (non_volatile : Bool) (new : NewRecord) (is : IsNew new) (of : IsOfStore non_volatile new) where
  abbrev piece : List ℕ
  piece = new_bytes 0x3F new ++ gap (new_size new)

  abbrev head : List ℕ
  head = header_bytes (new_header 0x3F new)

  new_behind : (rest : List ℕ) → piece ++ rest ≡ head ++ (new_body new ++ (gap (new_size new) ++ rest))
  unfolding new_bytes
  new_behind rest =
      append_assoc (head ++ new_body new) (gap (new_size new)) rest ∙ append_assoc head (new_body new) (gap (new_size new) ++ rest)

  pub new_piece : IsPiece non_volatile piece (new_live 0 new)
  new_piece =
      let h = IsHeader-new 0x3F new (omega arith) is in
      let long = length-new_bytes 0x3F new (omega arith) is in
      record {
        header = new_header 0x3F new;
        started = λ rest. ap has_start_id (new_behind rest) ∙ start_id_again (new_header 0x3F new) (new_body new ++ (gap (new_size new) ++ rest)) h;
        reads = λ rest. ap header_of (new_behind rest) ∙ read_again (new_header 0x3F new) (new_body new ++ (gap (new_size new) ++ rest)) h;
        full = full_new 0x3F new is (omega arith);
        state = refl;
        stored = of_store non_volatile new of;
        size = omega arith;
        room = omega (arith, length-append (new_bytes 0x3F new) (gap (new_size new)), length_gap (new_size new));
        named = λ rest.
            ap (λ found. name_in found (2 * length new.name.now + 2))
            (name_stands 0 0x3F new is (omega arith) (piece ++ rest) (gap (new_size new) ++ rest) (append_assoc (new_bytes 0x3F new) (gap (new_size new)) rest))
            ∙ name_again new.name.now is.can.named is.values.units;
        payload = λ rest.
            data_stands 0 0x3F new is (omega arith) (piece ++ rest) (gap (new_size new) ++ rest) (append_assoc (new_bytes 0x3F new) (gap (new_size new)) rest);
        same = refl;
      }
