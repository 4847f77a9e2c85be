-- A live record has the size of its record, and stands within the bytes.
use Rattle.std.proofs.Common.{◌≡◌, ℕ, ◌+◌, ◌*◌, ◌%◌, ◌≤◌, ◌==◌, Bool, true, false, cond, List, [], ◌∷◌, length, drop, refl, ap, subst, ◌∙◌, arith, eqb-true, length-take-le, length-drop, Option, Some, None, Result, Ok, Err}
use Rattle.std.specs.List.{AllByRecursion}
use Rattle.std.specs.Option.{option_map}
use Rattle.var_types.proofs.Records.{has_all}
use Rattle.var_types.specs.declared.name.NameFault.{NameFault}
use Rattle.var_types.specs.declared.record.Record.{Record}
use Rattle.var_types.specs.Live.{Live, before_nul, data_bytes, if_named, live_of, lives, name_bytes, name_in, units_in, well_formed, with_live}
use Rattle.var_types.specs.Name.{name_check}
use Rattle.var_types.specs.Record.{Authenticated, next_offset, record_at, records, whole_size}
use Rattle.var_types.specs.Region.{Region, region_lives, region_records}
use Rattle.var_region.proofs.LentNames.{length_units}
use Rattle.var_region.proofs.Read.{AreRead, IsRead, read_all, read_of}
use Rattle.var_region.proofs.Stored.{IsStored, each_region, stored_of}
use Rattle.region_compact.specs.Compacted.{live_size}

-- a name has a unit less than the units with its NUL
length_before_nul : (units name : List ℕ) → before_nul units ≡ Some name → length units ≡ length name + 1
length_before_nul [] name e = cc
length_before_nul (unit ∷ []) name e = by (unit == 0) e
  where
    by : (nul : Bool) → cond nul (Some []) None ≡ Some name → length (unit ∷ []) ≡ length name + 1
    by true e = let none : [] ≡ name = cc in subst (λ (n : List ℕ). 1 ≡ length n + 1) none refl
    by false e = cc
length_before_nul (unit ∷ next ∷ rest) name e = by (before_nul (next ∷ rest)) (length_before_nul (next ∷ rest)) e
  where
    by : (found : Option (List ℕ)) → ((name : List ℕ) → found ≡ Some name → length (next ∷ rest) ≡ length name + 1)
        → option_map (λ units. unit ∷ units) found ≡ Some name → length (unit ∷ next ∷ rest) ≡ length name + 1
    by None later e = cc
    by (Some units) later e =
        let is : unit ∷ units ≡ name = cc in
        let more = later units refl in
        subst (λ (n : List ℕ). length (unit ∷ next ∷ rest) ≡ length n + 1) is (omega (arith, more))

-- a well-formed name is what was found
well_formed_same : (found : Option (List ℕ)) (name : List ℕ) → well_formed found ≡ Some name → found ≡ Some name
well_formed_same None name e = cc
well_formed_same (Some units) name e = by (name_check units) e
  where
    by : (check : Result (Unit {0}) NameFault) → if_named units check ≡ Some name → Some units ≡ Some name
    by (Ok u) e = e
    by (Err fault) e = cc

-- the size of a name's bytes
pub name_in_size : (bytes : List ℕ) (size : ℕ) (name : List ℕ) → length bytes ≡ size → name_in bytes size ≡ Some name → size ≡ 2 * length name + 2
unfolding name_in
name_in_size bytes size name len e = by (size % 2 == 0) refl e
  where
    by : (even : Bool) → (size % 2 == 0) ≡ even → cond even (well_formed (before_nul (units_in bytes))) None ≡ Some name → size ≡ 2 * length name + 2
    by true t e =
        let units = length_before_nul (units_in bytes) name (well_formed_same (before_nul (units_in bytes)) name e) in
        let half = length_units bytes in
        let even : size % 2 ≡ 0 = eqb-true (size % 2) 0 t in
        omega arith
    by false t e = cc

module _ (non_volatile : Bool) (bytes : List ℕ) (at : ℕ) (r : Record) (live : Live) (read : IsRead bytes at r) (stored : IsStored non_volatile bytes r live) where
  -- a live record has the size of its record
  pub stored_size : live_size live ≡ whole_size Authenticated r.header
  stored_size =
      let fits = read.fits stored.whole in
      let place = read.place in
      let name : length (name_bytes Authenticated bytes r) ≡ r.header.name_size =
      length-take-le r.header.name_size (drop (r.at + 60) bytes) (omega (arith, length-drop (r.at + 60) bytes)) in
      let bytes_held : length (data_bytes Authenticated bytes r) ≡ r.header.data_size =
      length-take-le r.header.data_size (drop (r.at + 60 + r.header.name_size) bytes) (omega (arith, length-drop (r.at + 60 + r.header.name_size) bytes)) in
      let size = name_in_size (name_bytes Authenticated bytes r) r.header.name_size live.key.name name stored.named in
      let same : length live.variable.bytes ≡ length (data_bytes Authenticated bytes r) = ap (λ (l : Live). length l.variable.bytes) stored.same in
      omega arith

  -- it stands where its record does
  pub stored_place : live.at ≡ at
  stored_place = ap (λ (l : Live). l.at) stored.same ∙ read.place

-- a live record stands within the bytes
abbrev pub IsInside : List ℕ → Live → Type 0
IsInside bytes live = live.at + live_size live ≤ length bytes

module _ (non_volatile : Bool) (bytes : List ℕ) where
  -- what holds of each live record of a record that was read holds of those of some records
  pub each_stored : (P : Live → Type 0)
      → ((at : ℕ) (r : Record) (live : Live) → record_at Authenticated bytes at ≡ Some r → IsStored non_volatile bytes r live → live_of Authenticated non_volatile bytes r ≡ Some live → P live)
      → (at : ℕ) (rs : List Record) → AreRead bytes at rs → AllByRecursion P (lives Authenticated non_volatile bytes rs)
  each_stored P h at [] has = tt
  each_stored P h at (r ∷ rs) has = by (live_of Authenticated non_volatile bytes r) refl (each_stored P h (next_offset Authenticated r) rs has.1)
    where
      by : (found : Option Live) → live_of Authenticated non_volatile bytes r ≡ found → AllByRecursion P (lives Authenticated non_volatile bytes rs)
          → AllByRecursion P (with_live found (lives Authenticated non_volatile bytes rs))
      by None is rest = rest
      by (Some live) is rest = (h at r live has.0 (stored_of non_volatile bytes r live is) is, rest)

-- the live records of a region stand within its bytes
pub inside_region : (region : Region) → AllByRecursion (IsInside region.bytes) (region_lives region)
unfolding region_lives region_records
inside_region =
    each_region (λ region. AllByRecursion (IsInside region.bytes) (region_lives region))
    (λ bytes first nv.
    each_stored nv bytes (IsInside bytes)
    (λ at r live here stored is.
    let read = read_of bytes at r here in
    let size = stored_size nv bytes at r live read stored in
    let place = stored_place nv bytes at r live read stored in
    let fits = read.fits stored.whole in
    omega arith)
    first (records Authenticated bytes first) (read_all bytes first (records Authenticated bytes first) (has_all Authenticated bytes first)))
