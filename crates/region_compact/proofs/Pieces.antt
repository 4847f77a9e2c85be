-- Pieces of bytes, each of which is read as one ADDED record whatever follows: joined, they are read as these records.
use Rattle.std.proofs.Common.{◌≡◌, ℕ, suc, ◌+◌, ◌%◌, ◌-◌, ◌||◌, not, Bool, true, false, cond, List, [], ◌∷◌, ◌++◌, length, take, drop, replicate, refl, sym, ap, subst, ◌∙◌, arith, append_assoc, length-append, Some, None}
use Rattle.std.proofs.lemmas.List.{drop-drop, drop_at, get_or-append_right, get_or-replicate, length-replicate}
use Rattle.std.specs.Option.{option_map}
use Rattle.var_header.specs.declared.header.Header.{Header}
use Rattle.var_header.specs.Header.{has_start_id, header_of}
use Rattle.var_types.proofs.Records.{records_first, records_none}
use Rattle.var_types.specs.Attributes.{has, non_volatile_bit}
use Rattle.var_types.specs.declared.record.Record.{Record}
use Rattle.var_types.specs.declared.record_state.RecordState.TheVariants.{Added}
use Rattle.var_types.specs.Live.{Live, live_of, lives, name_in, with_live}
use Rattle.var_types.specs.Record.{Authenticated, is_bare, next_offset, record_at, records, tail_from, whole_size}
use Rattle.var_types.specs.RecordState.{record_state}
use Rattle.var_types.specs.Room.{align4}
use Rattle.var_types.proofs.Censuses.{counted}
use Rattle.var_types.specs.Census.{is_kind, kind_with}
use Rattle.var_types.specs.declared.record_kind.RecordKind.TheVariants as kind
use Rattle.var_region.proofs.Read.{whole_read}
use Rattle.var_region.proofs.Stored.{live_from, live_with}
use Rattle.var_region.proofs.Tails.{IsErasedFrom, none_erased}
use Rattle.var_region.specs.Tallies.{count_at, kind_at}
use Rattle.region_compact.specs.Compacted.{live_room, live_size}
use Rattle.region_compact.specs.Laws.{moved}

-- bytes are one ADDED record of a store, whatever follows them, and the gap behind it
pub record IsPiece (non_volatile : Bool) (bytes : List ℕ) (live : Live) : Type 0 where
  pub header : Header
  pub started : (rest : List ℕ) → has_start_id (bytes ++ rest) ≡ true
  pub reads : (rest : List ℕ) → header_of (bytes ++ rest) ≡ header
  pub full : is_bare header ≡ false
  pub state : header.state ≡ 0x3F
  pub stored : (not non_volatile || has header.attributes non_volatile_bit) ≡ true
  pub size : whole_size Authenticated header ≡ live_size live
  pub room : length bytes ≡ live_room live
  pub named : (rest : List ℕ) → name_in (take header.name_size (drop 60 (bytes ++ rest))) header.name_size ≡ Some live.key.name
  pub payload : (rest : List ℕ) → take header.data_size (drop (60 + header.name_size) (bytes ++ rest)) ≡ live.variable.bytes
  pub same : record live { state = Added }
      ≡ live_with (record { at = live.at; header = header; whole = true }) live.key.name live.variable.bytes Added

-- pieces, with the live records that they are
abbrev pub Pieces : Type 0
Pieces = List (List ℕ × Live)

abbrev pub ArePieces : Bool → Pieces → Type 0
ArePieces non_volatile [] = Unit {0}
ArePieces non_volatile (p ∷ ps) = IsPiece non_volatile p.0 p.1 × ArePieces non_volatile ps

-- their bytes
abbrev pub joined : Pieces → List ℕ
joined [] = []
joined (p ∷ ps) = p.0 ++ joined ps

-- their live records
abbrev pub lives_in : Pieces → List Live
lives_in [] = []
lives_in (p ∷ ps) = p.1 ∷ lives_in ps

-- how long they are
abbrev pub rooms_in : Pieces → ℕ
rooms_in [] = 0
rooms_in (p ∷ ps) = live_room p.1 + rooms_in ps

-- some records of a store's bytes are so many, all of them ADDED
abbrev pub AreAdded : Bool → List ℕ → List Record → ℕ → Type 0
AreAdded non_volatile bytes rs many = (length rs ≡ many) × (count_at kind.Added non_volatile bytes rs ≡ many)

-- what a test adds to a count
abbrev tick : Bool → ℕ
tick b = cond b 1 0

-- a multiple of 4 behind a record
align_more : (at size : ℕ) → at % 4 ≡ 0 → align4 (at + size) ≡ at + align4 size
align_more at size h = omega arith

module _ (non_volatile : Bool) (n : ℕ) where
  -- what stands at the end of a front
  at_end : (head rest : List ℕ) → drop (length head) (head ++ rest) ≡ rest
  at_end head rest = drop_at head rest (length head) refl

  -- a piece behind a front is read as its record
  module _ (head : List ℕ) (even : length head % 4 ≡ 0) (bytes more : List ℕ) (live : Live) (is : IsPiece non_volatile bytes live) where
    abbrev all : List ℕ
    all = head ++ (bytes ++ more)

    abbrev r : Record
    r = record { at = length head; header = is.header; whole = true }

    piece_read : record_at Authenticated all (length head) ≡ Some r
    piece_read =
        let here = at_end head (bytes ++ more) in
        let size = is.size in
        let room = is.room in
        whole_read all (length head) is.header
        (omega (arith, length-append head (bytes ++ more), length-append bytes more))
        (ap has_start_id here ∙ is.started more) (ap header_of here ∙ is.reads more) is.full

    piece_next : next_offset Authenticated r ≡ length head + live_room live
    piece_next = align_more (length head) (whole_size Authenticated is.header) even ∙ ap (λ size. length head + align4 size) is.size

    piece_live : live_of Authenticated non_volatile all r ≡ Some (record live { at = length head; state = Added })
    piece_live =
        let here = at_end head (bytes ++ more) in
        let name = sym (drop-drop 60 (length head) all) ∙ ap (drop 60) here in
        let far : length head + 60 + is.header.name_size ≡ length head + (60 + is.header.name_size) = omega arith in
        let rest : drop (length head + 60 + is.header.name_size) all ≡ drop (60 + is.header.name_size) (bytes ++ more) =
        ap (λ k. drop k all) far ∙ sym (drop-drop (60 + is.header.name_size) (length head) all) ∙ ap (drop (60 + is.header.name_size)) here in
        live_from non_volatile all r live.key.name refl is.stored (ap (λ found. name_in (take is.header.name_size found) is.header.name_size) name ∙ is.named more)
        ∙ ap (λ found. option_map (live_with r live.key.name found) (record_state is.header.state)) (ap (take is.header.data_size) rest ∙ is.payload more)
        ∙ ap (λ state. option_map (live_with r live.key.name live.variable.bytes) (record_state state)) is.state
        ∙ ap (λ (l : Live). Some (record l { at = length head })) (sym is.same)

  -- bytes behind a front are erased
  pub erased_behind : (head : List ℕ) → IsErasedFrom (length head) (head ++ replicate n 0xFF)
  erased_behind head k low high =
      get_or-append_right head (replicate n 0xFF) (length head) k 0 refl low
      ∙ get_or-replicate n (k - length head) 0xFF 0 (omega (arith, length-append head (replicate n 0xFF), length-replicate {A = ℕ} n 0xFF))

  -- nothing is read of the erased bytes behind a front
  none_behind : (head : List ℕ) → record_at Authenticated (head ++ replicate n 0xFF) (length head) ≡ None
  none_behind head = none_erased (head ++ replicate n 0xFF) (length head) (length head) (erased_behind head) (omega arith)

  module _ (p : List ℕ × Live) (ps : Pieces) (is : IsPiece non_volatile p.0 p.1) (head : List ℕ) (even : length head % 4 ≡ 0) where
    abbrev behind : List ℕ
    behind = joined ps ++ replicate n 0xFF

    -- the bytes, with a piece behind a front
    split : head ++ ((p.0 ++ joined ps) ++ replicate n 0xFF) ≡ head ++ (p.0 ++ behind)
    split = ap (λ bytes. head ++ bytes) (append_assoc p.0 (joined ps) (replicate n 0xFF))

    -- the same, with the piece in the front
    further : head ++ (p.0 ++ behind) ≡ (head ++ p.0) ++ behind
    further = sym (append_assoc head p.0 behind)

    place : length head + live_room p.1 ≡ length (head ++ p.0)
    place = let room = is.room in omega (arith, length-append head p.0)

    even_further : length (head ++ p.0) % 4 ≡ 0
    even_further = let at = place in omega arith

    first_records : records Authenticated (head ++ (p.0 ++ behind)) (length head)
        ≡ record { at = length head; header = is.header; whole = true } ∷ records Authenticated (head ++ (p.0 ++ behind)) (length head + live_room p.1)
    first_records =
        records_first Authenticated (head ++ (p.0 ++ behind)) (length head) (record { at = length head; header = is.header; whole = true })
        (piece_read head even p.0 behind p.1 is)
        ∙ ap (λ at. record { at = length head; header = is.header; whole = true } ∷ records Authenticated (head ++ (p.0 ++ behind)) at)
        (piece_next head even p.0 behind p.1 is)

    -- one ADDED record more, from a piece on
    added_more : (many : ℕ) → AreAdded non_volatile ((head ++ p.0) ++ behind) (records Authenticated ((head ++ p.0) ++ behind) (length (head ++ p.0))) many
        → AreAdded non_volatile (head ++ ((p.0 ++ joined ps) ++ replicate n 0xFF)) (records Authenticated (head ++ ((p.0 ++ joined ps) ++ replicate n 0xFF)) (length head)) (suc many)
    added_more many rest =
        let bytes = head ++ (p.0 ++ behind) in
        let r : Record = record { at = length head; header = is.header; whole = true } in
        let later = records Authenticated bytes (length head + live_room p.1) in
        let others : AreAdded non_volatile bytes later many =
        subst (λ at. AreAdded non_volatile bytes (records Authenticated bytes at) many) (sym place)
        (subst (λ all. AreAdded non_volatile all (records Authenticated all (length (head ++ p.0))) many) (sym further) rest) in
        let mine : is_kind kind.Added (kind_at non_volatile bytes r) ≡ true =
        ap (λ found. is_kind kind.Added (kind_with found is.header.state)) (piece_live head even p.0 behind p.1 is) in
        let one : tick (is_kind kind.Added (kind_at non_volatile bytes r)) ≡ 1 = ap tick mine in
        let more : count_at kind.Added non_volatile bytes (r ∷ later) ≡ suc many =
        omega (arith, counted (λ found. is_kind kind.Added (kind_at non_volatile bytes found)) r later, one, others.1) in
        subst (λ all. AreAdded non_volatile all (records Authenticated all (length head)) (suc many)) (sym split)
        (subst (λ rs. AreAdded non_volatile bytes rs (suc many)) (sym first_records) (ap suc others.0, more))

    -- the live records from a piece on
    lives_more : lives Authenticated non_volatile (head ++ ((p.0 ++ joined ps) ++ replicate n 0xFF)) (records Authenticated (head ++ ((p.0 ++ joined ps) ++ replicate n 0xFF)) (length head))
        ≡ record p.1 { at = length head; state = Added } ∷ lives Authenticated non_volatile ((head ++ p.0) ++ behind) (records Authenticated ((head ++ p.0) ++ behind) (length (head ++ p.0)))
    lives_more =
        ap (λ bytes. lives Authenticated non_volatile bytes (records Authenticated bytes (length head))) split
        ∙ ap (lives Authenticated non_volatile (head ++ (p.0 ++ behind))) first_records
        ∙ ap (λ found. with_live found (lives Authenticated non_volatile (head ++ (p.0 ++ behind)) (records Authenticated (head ++ (p.0 ++ behind)) (length head + live_room p.1))))
        (piece_live head even p.0 behind p.1 is)
        ∙ (λ i. record p.1 { at = length head; state = Added } ∷ lives Authenticated non_volatile (further i) (records Authenticated (further i) (place i)))

    -- the tail from a piece on
    tail_more : tail_from Authenticated (length head) (records Authenticated (head ++ ((p.0 ++ joined ps) ++ replicate n 0xFF)) (length head))
        ≡ tail_from Authenticated (length (head ++ p.0)) (records Authenticated ((head ++ p.0) ++ behind) (length (head ++ p.0)))
    tail_more =
        ap (λ bytes. tail_from Authenticated (length head) (records Authenticated bytes (length head))) split
        ∙ ap (tail_from Authenticated (length head)) first_records
        ∙ ap (λ at. tail_from Authenticated at (records Authenticated (head ++ (p.0 ++ behind)) (length head + live_room p.1))) (piece_next head even p.0 behind p.1 is)
        ∙ (λ i. tail_from Authenticated (place i) (records Authenticated (further i) (place i)))

  -- the live records of joined pieces
  pub lives_joined : (ps : Pieces) → ArePieces non_volatile ps → (head : List ℕ) → length head % 4 ≡ 0
      → lives Authenticated non_volatile (head ++ (joined ps ++ replicate n 0xFF)) (records Authenticated (head ++ (joined ps ++ replicate n 0xFF)) (length head))
      ≡ moved (length head) (lives_in ps)
  lives_joined [] are head even = ap (lives Authenticated non_volatile (head ++ replicate n 0xFF)) (records_none Authenticated (head ++ replicate n 0xFF) (length head) (none_behind head))
  lives_joined (p ∷ ps) are head even =
      lives_more p ps are.0 head even
      ∙ ap (λ ls. record p.1 { at = length head; state = Added } ∷ ls) (lives_joined ps are.1 (head ++ p.0) (even_further p ps are.0 head even))
      ∙ ap (λ at. record p.1 { at = length head; state = Added } ∷ moved at (lives_in ps)) (sym (place p ps are.0 head even))

  -- each of their records is ADDED
  pub added_joined : (ps : Pieces) → ArePieces non_volatile ps → (head : List ℕ) → length head % 4 ≡ 0
      → AreAdded non_volatile (head ++ (joined ps ++ replicate n 0xFF)) (records Authenticated (head ++ (joined ps ++ replicate n 0xFF)) (length head)) (length (lives_in ps))
  added_joined [] are head even =
      subst (λ rs. AreAdded non_volatile (head ++ replicate n 0xFF) rs 0) (sym (records_none Authenticated (head ++ replicate n 0xFF) (length head) (none_behind head))) (refl, refl)
  added_joined (p ∷ ps) are head even =
      added_more p ps are.0 head even (length (lives_in ps)) (added_joined ps are.1 (head ++ p.0) (even_further p ps are.0 head even))

  -- the tail behind them
  pub tail_joined : (ps : Pieces) → ArePieces non_volatile ps → (head : List ℕ) → length head % 4 ≡ 0
      → tail_from Authenticated (length head) (records Authenticated (head ++ (joined ps ++ replicate n 0xFF)) (length head)) ≡ length head + rooms_in ps
  tail_joined [] are head even =
      ap (tail_from Authenticated (length head)) (records_none Authenticated (head ++ replicate n 0xFF) (length head) (none_behind head)) ∙ omega arith
  tail_joined (p ∷ ps) are head even =
      let at = place p ps are.0 head even in
      tail_more p ps are.0 head even
      ∙ tail_joined ps are.1 (head ++ p.0) (even_further p ps are.0 head even)
      ∙ omega arith

  -- pieces have their rooms
  pub length_joined : (ps : Pieces) → ArePieces non_volatile ps → length (joined ps) ≡ rooms_in ps
  length_joined [] are = refl
  length_joined (p ∷ ps) are = let room = are.0.room in omega (arith, length-append p.0 (joined ps), length_joined ps are.1)
