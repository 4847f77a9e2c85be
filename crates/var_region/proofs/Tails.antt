-- Erased bytes behind a region's records hold none, and a record at the tail is one more.
use Rattle.std.proofs.Common.{◌≡◌, ℕ, zero, suc, ◌+◌, ◌-◌, ◌≤◌, ◌<◌, ◌==◌, ◌&&◌, Bool, true, false, List, [], ◌∷◌, ◌++◌, length, drop, get_or, refl, sym, ap, ◌∙◌, arith, length-drop, eqb-true, Some, None}
use Rattle.std.proofs.lemmas.List.{get_or-drop}
use Rattle.std.specs.List.{list_all}
use Rattle.var_header.specs.Header.{has_start_id}
use Rattle.var_types.proofs.Records.{has_all, one}
use Rattle.var_types.specs.declared.record.Record.{Record}
use Rattle.var_types.specs.Live.{live_of, lives, with_live}
use Rattle.var_types.specs.Record.{Authenticated, HasRecords, is_clean, next_offset, record_at, records, tail_from}
use Rattle.var_region.proofs.Alike.{IsAlike, same_lives, same_records}
use Rattle.var_region.proofs.Read.{none_read, read_all}

-- bytes are erased from an offset on
abbrev pub IsErasedFrom : ℕ → List ℕ → Type 0
IsErasedFrom from bytes = (k : ℕ) → from ≤ k → k < length bytes → get_or bytes k 0 ≡ 0xFF

-- each byte of erased ones
each_erased : (bytes : List ℕ) → list_all (λ byte. byte == 0xFF) bytes ≡ true → (k : ℕ) → k < length bytes → get_or bytes k 0 ≡ 0xFF
each_erased [] all k h = absurd (omega arith)
each_erased (b ∷ bs) all k h = by k h (b == 0xFF) refl all (each_erased bs)
  where
    by : (k : ℕ) → k < length (b ∷ bs) → (here : Bool) → (b == 0xFF) ≡ here → (here && list_all (λ byte. byte == 0xFF) bs) ≡ true
        → (list_all (λ byte. byte == 0xFF) bs ≡ true → (k : ℕ) → k < length bs → get_or bs k 0 ≡ 0xFF) → get_or (b ∷ bs) k 0 ≡ 0xFF
    by k h false e all rest = cc
    by zero h true e all rest = eqb-true b 0xFF e
    by (suc k) h true e all rest = rest all k (omega arith)

-- bytes each of which is erased are so
all_erased : (bytes : List ℕ) → ((k : ℕ) → k < length bytes → get_or bytes k 0 ≡ 0xFF) → list_all (λ byte. byte == 0xFF) bytes ≡ true
all_erased [] each = refl
all_erased (b ∷ bs) each =
    ap (λ byte. (byte == 0xFF) && list_all (λ byte. byte == 0xFF) bs) (each zero (omega arith))
    ∙ all_erased bs (λ k h. each (suc k) (omega arith))

-- a clean tail is erased
pub erased_from : (bytes : List ℕ) (at : ℕ) → is_clean bytes at ≡ true → IsErasedFrom at bytes
erased_from bytes at clean k low high =
    let n : at + (k - at) ≡ k = omega arith in
    ap (λ j. get_or bytes j 0) (sym n)
    ∙ sym (get_or-drop at bytes (k - at) 0)
    ∙ each_erased (drop at bytes) clean (k - at) (omega (arith, length-drop at bytes))

-- a tail that is erased is clean
pub clean_from : (bytes : List ℕ) (at : ℕ) → IsErasedFrom at bytes → is_clean bytes at ≡ true
clean_from bytes at erased =
    all_erased (drop at bytes) (λ k h. get_or-drop at bytes k 0 ∙ erased (at + k) (omega arith) (omega (arith, length-drop at bytes)))

-- bytes that are alike are erased from where the others are
pub alike_erased : (from at : ℕ) (old new : List ℕ) → IsAlike from (length old) old new → from ≤ at → IsErasedFrom at old → IsErasedFrom at new
alike_erased from at old new alike h erased k low high =
    let len = alike.len in
    alike.same k (omega arith) (omega arith) ∙ erased k low (omega arith)

-- erased bytes begin with no StartId
unstarted : (bytes : List ℕ) (from at : ℕ) → IsErasedFrom from bytes → from ≤ at → at + 60 ≤ length bytes → has_start_id (drop at bytes) ≡ false
unfolding has_start_id
unstarted bytes from at erased h room =
    ap (λ byte. (byte == 0xAA) && (get_or (drop at bytes) 1 0 == 0x55)) (get_or-drop at bytes 0 0 ∙ erased (at + 0) (omega arith) (omega arith))

-- no record stands in erased bytes
pub none_erased : (bytes : List ℕ) (from at : ℕ) → IsErasedFrom from bytes → from ≤ at → record_at Authenticated bytes at ≡ None
none_erased bytes from at erased h = none_read bytes at (unstarted bytes from at erased h)

-- live records among two lists of records
pub lives-append : (non_volatile : Bool) (bytes : List ℕ) (rs qs : List Record)
    → lives Authenticated non_volatile bytes (rs ++ qs) ≡ lives Authenticated non_volatile bytes rs ++ lives Authenticated non_volatile bytes qs
lives-append nv bytes [] qs = refl
lives-append nv bytes (r ∷ rs) qs =
    ap (with_live (live_of Authenticated nv bytes r)) (lives-append nv bytes rs qs) ∙ by (live_of Authenticated nv bytes r)
  where
    by : (found : _) → with_live found (lives Authenticated nv bytes rs ++ lives Authenticated nv bytes qs)
        ≡ with_live found (lives Authenticated nv bytes rs) ++ lives Authenticated nv bytes qs
    by None = refl
    by (Some live) = refl

-- the tail behind two lists of records
pub tail-append : (at : ℕ) (rs qs : List Record) → tail_from Authenticated at (rs ++ qs) ≡ tail_from Authenticated (tail_from Authenticated at rs) qs
tail-append at [] qs = refl
tail-append at (r ∷ rs) qs = tail-append (next_offset Authenticated r) rs qs

module _ (old new : List ℕ) (first : ℕ) where
  abbrev rs : List Record
  rs = records Authenticated old first

  abbrev tail : ℕ
  tail = tail_from Authenticated first rs

  -- where bytes are alike up to the tail, the records are the same, and those that stand there then
  pub records_behind : (qs : List Record) → IsAlike 0 tail old new → HasRecords Authenticated new tail qs
      → records Authenticated new first ≡ rs ++ qs
  records_behind qs alike has =
      one Authenticated new first (records Authenticated new first) (rs ++ qs) (has_all Authenticated new first)
      (same_records 0 tail old new alike first rs qs (omega arith) (omega arith) (read_all old first rs (has_all Authenticated old first)) has)

  -- and the live records are the same, and those among the others
  pub lives_behind : (non_volatile : Bool) (qs : List Record) → IsAlike 0 tail old new → HasRecords Authenticated new tail qs
      → lives Authenticated non_volatile new (records Authenticated new first)
      ≡ lives Authenticated non_volatile old rs ++ lives Authenticated non_volatile new qs
  lives_behind nv qs alike has =
      ap (lives Authenticated nv new) (records_behind qs alike has)
      ∙ lives-append nv new rs qs
      ∙ ap (λ found. found ++ lives Authenticated nv new qs)
      (same_lives 0 tail old new alike nv first rs (omega arith) (omega arith) (read_all old first rs (has_all Authenticated old first)))
