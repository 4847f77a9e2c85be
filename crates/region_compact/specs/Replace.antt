-- What goes and what comes as a region is compacted.
use Rattle.std.specs.Prelude.{ℕ, ◌-◌, Bool, false, List, [], ◌∷◌, ◌++◌, replicate, Option, Some, None}
use Rattle.std.specs.BTreeMap.{insert_entry, is_at}
use Rattle.std.specs.Map.{remove_entry}
use Rattle.var_types.specs.declared.key.Key.{Key}
use Rattle.var_types.specs.declared.variable.Variable.{Variable}
use Rattle.var_types.specs.Key.{key_cmp, key_of}
use Rattle.var_types.specs.Live.{Live}
use Rattle.var_types.specs.Room.{align4}
use Rattle.var_region.specs.NewRecord.{AreValues, CanWrite, IsNew, IsOfStore, new_bytes, new_key, new_live, new_size, new_variable}
use Rattle.region_compact.specs.declared.replace.Replace.{Replace}
use Rattle.region_compact.specs.declared.replace.Replace.TheVariants.{None as Keep, Put, Drop}

-- the key that a replacement is of
abbrev pub replaced_key : Replace → Option Key
replaced_key Keep = None
replaced_key (Put new) = Some (new_key new)
replaced_key (Drop guid name) = Some (key_of guid name.now)

-- whether a key is replaced
abbrev pub is_replaced : Option Key → Key → Bool
is_replaced None key = false
is_replaced (Some replaced) key = is_at (key_cmp replaced) key

-- the erased bytes between a record of some size and the next multiple of 4 (EDK II, HEADER_ALIGNMENT)
abbrev pub gap : ℕ → List ℕ
gap size = replicate (align4 size - size) 0xFF

-- the bytes that a replacement adds: a new record, ADDED, with the gap behind it
abbrev pub added : Replace → List ℕ
added Keep = []
added (Put new) = new_bytes 0x3F new ++ gap (new_size new)
added (Drop guid name) = []

-- how many these are
abbrev pub added_room : Replace → ℕ
added_room Keep = 0
added_room (Put new) = align4 (new_size new)
added_room (Drop guid name) = 0

-- the live records that a replacement adds, at whichever offset
abbrev pub added_lives : Replace → List Live
added_lives Keep = []
added_lives (Put new) = new_live 0 new ∷ []
added_lives (Drop guid name) = []

-- variables after a replacement
abbrev pub map_after : Replace → List (Key × Variable) → List (Key × Variable)
map_after Keep entries = entries
map_after (Put new) entries = insert_entry key_cmp entries (new_key new) (new_variable new)
map_after (Drop guid name) entries = remove_entry (is_at (key_cmp (key_of guid name.now))) entries

-- a new record that a replacement adds may be written
abbrev pub CanReplace : Replace → Type 0
CanReplace Keep = Unit {0}
CanReplace (Put new) = CanWrite new
CanReplace (Drop guid name) = Unit {0}

-- the parts of a new record that a replacement adds are values of their types, as those of a program always are
abbrev pub AreReplaceValues : Replace → Type 0
AreReplaceValues Keep = Unit {0}
AreReplaceValues (Put new) = AreValues new
AreReplaceValues (Drop guid name) = Unit {0}

-- a replacement by a program, in a store that is the non-volatile one or not
abbrev pub IsReplaceIn : Bool → Replace → Type 0
IsReplaceIn non_volatile Keep = Unit {0}
IsReplaceIn non_volatile (Put new) = IsNew new × IsOfStore non_volatile new
IsReplaceIn non_volatile (Drop guid name) = Unit {0}
