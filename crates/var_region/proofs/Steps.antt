-- The steps of an append, as bytes: the header, its state byte, and the name and data behind it.
use Rattle.std.proofs.Common.{◌≡◌, ℕ, ◌+◌, ◌-◌, ◌≤◌, ◌<◌, ◌^◌, List, [], ◌++◌, length, take, drop, set, refl, sym, ap, subst, ◌∙◌, arith, append_assoc, length-append}
use Rattle.std.proofs.lemmas.List.{append-nil, drop-drop, length-take-le, set-append_right, take-take, take_at}
use Rattle.var_header.proofs.Headers.{length-header_bytes}
use Rattle.var_header.specs.declared.header.Header.{Header}
use Rattle.var_header.specs.Header.{header_bytes}
use Rattle.var_types.proofs.Placed.{before_placed, behind_placed, here_placed, length-placed, placed_more}
use Rattle.var_types.specs.Placed.{placed}
use Rattle.var_types.specs.Region.{Region, tail_offset}
use Rattle.var_region.specs.declared.new_record.NewRecord.{NewRecord}
use Rattle.var_region.specs.NewRecord.{new_body, new_bytes, new_header, new_size}
use Rattle.var_region.specs.WritingLaws.{AreSteps, BodiesKeepTheHeader, HeadersBegin, IsBegun, StepsLeaveTheirBytes}
use Rattle.var_region.specs.Written.{FitsBehind, state_set}
use Rattle.var_region.proofs.Alike.{alike_front, same_part}
use Rattle.var_region.proofs.NewRecords.{IsHeader-new, length-new_body}

-- the third byte of a header is its State
header_set : (h : Header) (state : ℕ) (rest : List ℕ) → set (header_bytes h ++ rest) 2 state ≡ header_bytes (record h { state = state }) ++ rest
unfolding header_bytes
header_set h state rest = refl

-- a header has as many bytes in each state
same_length : (h : Header) (state : ℕ) → length (header_bytes h) ≡ length (header_bytes (record h { state = state }))
unfolding header_bytes
same_length h state = refl

-- a state byte that is set in bytes written is one of these
set_placed : (at state : ℕ) (xs ys old : List ℕ) → at ≤ length old → length xs ≡ length ys
    → ((rest : List ℕ) → set (xs ++ rest) 2 state ≡ ys ++ rest) → state_set at state (placed at xs old) ≡ placed at ys old
unfolding placed
set_placed at state xs ys old low same h =
    let before : length (take at old) ≡ at = length-take-le at old low in
    let two : at + 2 - at ≡ 2 = omega arith in
    set-append_right (take at old) (xs ++ drop (at + length xs) old) at (at + 2) state before (omega arith)
    ∙ ap (λ n. take at old ++ set (xs ++ drop (at + length xs) old) n state) two
    ∙ ap (λ rest. take at old ++ rest) (h (drop (at + length xs) old))
    ∙ ap (λ n. take at old ++ (ys ++ drop (at + n) old)) same

module _ (region : Region) (new : NewRecord) (state : ℕ) (fits : FitsBehind region new) (small : state < 2 ^ 8) where
  abbrev at : ℕ
  at = tail_offset region

  abbrev head : List ℕ
  head = header_bytes (new_header state new)

  length_head : length head ≡ 60
  length_head = length-header_bytes (new_header state new) [] (IsHeader-new state new small fits.is)

  -- a header that is written at the tail, with bytes behind it, stands there
  pub begun_placed : (more : List ℕ) → 60 + length more ≤ new_size new → IsBegun region state new (placed at (head ++ more) region.bytes)
  begun_placed more short =
      let old = region.bytes in
      let xs = head ++ more in
      let size : length xs ≡ 60 + length more = omega (arith, length-append head more, length_head) in
      let fit = fits.room in
      let room : at + length xs ≤ length old = omega arith in
      let far : at + length xs + (new_size new - length xs) ≡ at + new_size new = omega arith in
      record {
        outside = record {
          len = length-placed at xs old room;
          before = before_placed at xs old room;
          behind = ap (λ n. drop n (placed at xs old)) (sym far)
              ∙ sym (drop-drop (new_size new - length xs) (at + length xs) (placed at xs old))
              ∙ ap (drop (new_size new - length xs)) (behind_placed at xs old room)
              ∙ drop-drop (new_size new - length xs) (at + length xs) old
              ∙ ap (λ n. drop n old) far;
        };
        header = ap (take 60) (here_placed at xs old room ∙ append_assoc head more (drop (at + length xs) old))
            ∙ take_at head (more ++ drop (at + length xs) old) 60 length_head;
      }

  -- a whole one stands there
  pub begun_whole : IsBegun region state new (placed at (new_bytes state new) region.bytes)
  unfolding new_bytes
  begun_whole = begun_placed (new_body new) (omega (arith, length-new_body new))

  pub begun_alone : IsBegun region state new (placed at head region.bytes)
  begun_alone = subst (λ xs. IsBegun region state new (placed at xs region.bytes)) (append-nil head) (begun_placed [] (omega arith))

  pub steps : (next : ℕ) → AreSteps at new region.bytes state next
  unfolding new_bytes
  steps next =
      let old = region.bytes in
      let fit = fits.room in
      let low : at ≤ length old = omega arith in
      let h = new_header state new in
      let h2 = new_header next new in
      record {
        header = set_placed at next head (header_bytes h2) old low (same_length h next) (header_set h next);
        body = placed_more at (at + 60) head (new_body new) old (omega (arith, length_head)) (omega (arith, length-new_body new));
        whole = set_placed at next (head ++ new_body new) (header_bytes h2 ++ new_body new) old low
            (omega (arith, length-append head (new_body new), length-append (header_bytes h2) (new_body new), same_length h next))
            (λ rest.
            ap (λ bytes. set bytes 2 next) (append_assoc head (new_body new) rest)
            ∙ header_set h next (new_body new ++ rest)
            ∙ sym (append_assoc (header_bytes h2) (new_body new) rest));
      }

pub HeadersBegin-all : HeadersBegin
HeadersBegin-all region new state fits small = begun_alone region new state fits small

pub StepsLeaveTheirBytes-all : StepsLeaveTheirBytes
StepsLeaveTheirBytes-all region new state next fits small = steps region new state fits small next

pub BodiesKeepTheHeader-all : BodiesKeepTheHeader
BodiesKeepTheHeader-all region new state bytes other fits begun kept =
    let at = tail_offset region in
    let outside = begun.outside in
    let alike = alike_front (at + 60) bytes other kept.len kept.before in
    record {
      outside = record {
        len = kept.len ∙ outside.len;
        before = sym (take-take at (at + 60) other (omega arith))
            ∙ ap (take at) kept.before
            ∙ take-take at (at + 60) bytes (omega arith)
            ∙ outside.before;
        behind = kept.behind ∙ outside.behind;
      };
      header = same_part 0 (at + 60) bytes other alike at 60 (omega arith) (omega arith) ∙ begun.header;
    }
