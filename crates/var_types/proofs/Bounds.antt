-- The live records of a region have names within the bound on names, and no more data than the region has bytes.
use Rattle.std.proofs.Common.{◌≡◌, ℕ, ◌+◌, ◌%◌, ◌==◌, ◌&&◌, ◌||◌, not, ◌≤◌, Bool, true, false, List, [], ◌∷◌, length, drop, refl, arith, length-take, length-drop, Option, Some, None, Result, Ok, Err, cond}
use Rattle.std.specs.List.{AllByRecursion}
use Rattle.var_types.proofs.Chosen.{chosen-all}
use Rattle.var_types.proofs.Walks.{length-well_formed}
use Rattle.var_types.specs.Attributes.{has, non_volatile_bit}
use Rattle.var_types.specs.Chosen.{chosen}
use Rattle.var_types.specs.declared.key.Key.{Key}
use Rattle.var_types.specs.declared.name.NameFault.{NameFault}
use Rattle.var_types.specs.declared.record.Record.{Record}
use Rattle.var_types.specs.declared.record_state.RecordState.{RecordState}
use Rattle.var_types.specs.Layout.{longest_name}
use Rattle.var_types.specs.Live.{Live, before_nul, if_named, live_in_state, live_named, live_of, lives, name_bytes, name_in, units_in, well_formed, with_live}
use Rattle.var_types.specs.Name.{name_check}
use Rattle.var_types.specs.Record.{Form, header_size}
use Rattle.var_types.specs.RecordState.{record_state}
use Rattle.var_types.specs.Region.{Region, region_lives, region_records}

-- a live record's name is within the bound on names
abbrev pub HasShortName : Live → Type 0
HasShortName live = length live.key.name ≤ longest_name

-- a live record's data are at most so many bytes
abbrev pub HasDataWithin : ℕ → Live → Type 0
HasDataWithin len live = length live.variable.bytes ≤ len

-- a found name is within the bound on names
abbrev ShortIf : Option (List ℕ) → Type 0
ShortIf None = Unit {0}
ShortIf (Some units) = length units ≤ longest_name

-- a name that passes the check is short
short_checked : (units : List ℕ) → ShortIf (if_named units (name_check units))
short_checked units = by (name_check units) refl
  where
    by : (check : Result (Unit {0}) NameFault) → name_check units ≡ check → ShortIf (if_named units check)
    by (Ok u) h = length-well_formed units h
    by (Err fault) h = tt

-- a well-formed name is short
short_well_formed : (units : Option (List ℕ)) → ShortIf (well_formed units)
short_well_formed None = tt
short_well_formed (Some units) = short_checked units

-- the name in name bytes is short
short_name_in : (bytes : List ℕ) (size : ℕ) → ShortIf (name_in bytes size)
unfolding name_in
short_name_in bytes size = by (size % 2 == 0)
  where
    by : (even : Bool) → ShortIf (cond even (well_formed (before_nul (units_in bytes))) None)
    by true = short_well_formed (before_nul (units_in bytes))
    by false = tt

-- what holds of a live record, if there is one
abbrev pub IfLive : (Live → Type 0) → Option Live → Type 0
IfLive P None = Unit {0}
IfLive P (Some live) = P live

module _ (form : Form) (non_volatile : Bool) (bytes : List ℕ) where
  -- what holds of each record with a short name holds of a live record
  of_live : (P : Live → Type 0)
      → ((r : Record) (state : RecordState) (name : Option (List ℕ)) → ShortIf name → IfLive P (live_named form bytes r state name))
      → (r : Record) → IfLive P (live_of form non_volatile bytes r)
  unfolding live_of
  of_live P named r = by (r.whole && (not non_volatile || has r.header.attributes non_volatile_bit)) (record_state r.header.state)
    where
      by : (stored : Bool) (state : Option RecordState) → IfLive P (cond stored (live_in_state form bytes r state) None)
      by true None = tt
      by true (Some state) =
          named r state (name_in (name_bytes form bytes r) r.header.name_size) (short_name_in (name_bytes form bytes r) r.header.name_size)
      by false state = tt

  -- what holds of each live record holds of those among records
  pub of_lives : (P : Live → Type 0) → ((r : Record) → IfLive P (live_of form non_volatile bytes r)) → (rs : List Record)
      → AllByRecursion P (lives form non_volatile bytes rs)
  of_lives P h [] = tt
  of_lives P h (r ∷ rs) = by (live_of form non_volatile bytes r) (h r) (of_lives P h rs)
    where
      by : (found : Option Live) → IfLive P found → AllByRecursion P (lives form non_volatile bytes rs)
          → AllByRecursion P (with_live found (lives form non_volatile bytes rs))
      by None here rest = rest
      by (Some live) here rest = (here, rest)

  short_named : (r : Record) (state : RecordState) (name : Option (List ℕ)) → ShortIf name → IfLive HasShortName (live_named form bytes r state name)
  short_named r state None h = tt
  short_named r state (Some name) h = h

  small_named : (r : Record) (state : RecordState) (name : Option (List ℕ)) → ShortIf name
      → IfLive (HasDataWithin (length bytes)) (live_named form bytes r state name)
  small_named r state None h = tt
  small_named r state (Some name) h =
      let from = r.at + header_size form + r.header.name_size in
      omega (arith, length-take r.header.data_size (drop from bytes), length-drop from bytes)

-- the live records of a region have short names
pub short_names : (region : Region) → AllByRecursion HasShortName (region_lives region)
unfolding region_lives
short_names region =
    of_lives region.form region.non_volatile region.bytes HasShortName
    (of_live region.form region.non_volatile region.bytes HasShortName (short_named region.form region.non_volatile region.bytes)) (region_records region)

-- the live records of a region have no more data than it has bytes
pub small_data : (region : Region) → AllByRecursion (HasDataWithin (length region.bytes)) (region_lives region)
unfolding region_lives
small_data region =
    of_lives region.form region.non_volatile region.bytes (HasDataWithin (length region.bytes))
    (of_live region.form region.non_volatile region.bytes (HasDataWithin (length region.bytes)) (small_named region.form region.non_volatile region.bytes))
    (region_records region)

-- the record that counts for a key has no more data than its region has bytes
pub small_chosen : (region : Region) (key : Key) (live : Live) → chosen key (region_lives region) ≡ Some live
    → length live.variable.bytes ≤ length region.bytes
small_chosen region key live h = chosen-all (HasDataWithin (length region.bytes)) key (region_lives region) (small_data region) live h
