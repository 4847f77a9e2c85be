-- What reading an entry finds on its way.
use denote.Ref.{Bor}
use Rattle.std.specs.Option.{option_map}
use Rattle.std.specs.Prelude.{◌≡◌, ◌⊎◌, ℕ, ◌+◌, ◌*◌, ◌≤◌, ◌==◌, true, List, ◌++◌, length, take, drop, position, Option, Some, IfSome, IsOk, Err}
use Rattle.policy_entry.specs.declared.names.Names.{Names}
use Rattle.var_types.specs.declared.entry_fault.EntryFault.{EntryFault}
use Rattle.var_types.specs.declared.entry_fault.EntryFault.TheVariants.{OutOfMemory}
use Rattle.var_types.specs.Layout.{longest_name}
use Rattle.var_types.specs.Live.{units_in}
use Rattle.var_types.specs.PolicyEntry.{entry_name, entry_of, entry_tests, first_fault, is_name, is_name_length, locks_on_state, name_length, name_offset, state_header_size, entry_header_size, state_units}

-- the first fault of the tests from a place on
abbrev pub fault_from : ℕ → List ℕ → Option EntryFault
fault_from place bytes = first_fault (drop place (entry_tests bytes))

-- the fixed fields stand whole
pub record IsWhole (bytes : List ℕ) : Type 0 where
  pub header : entry_header_size ≤ length bytes
  pub state : locks_on_state bytes ≡ true → state_header_size ≤ length bytes

-- these bytes are a name of 1 to 512 units, which stands before the first NUL at the front of others
pub record IsFrontName (bytes name : List ℕ) : Type 0 where
  pub found : position (λ unit. unit == 0) (units_in bytes) ≡ Some (length (units_in name))
  pub units : units_in name ≡ take (length (units_in name)) (units_in bytes)
  pub size : length name ≡ 2 * length (units_in name)
  pub well_formed : is_name_length (length (units_in name)) ≡ true
  pub within : length name + 2 ≤ length bytes

-- the units of a name that is lent as bytes
abbrev pub lent_units : Option (Bor (List ℕ)) → Option (List ℕ)
lent_units name = option_map (λ bytes. units_in bytes.now) name

-- these bytes are the name of the variable whose state locks, where the entry has such a lock
pub record IsStateName (bytes name : List ℕ) : Type 0 where
  pub units : locks_on_state bytes ≡ true → units_in name ≡ state_units bytes
  pub fits : length (units_in name) ≤ longest_name

-- these bytes are that name where it is well-formed, and the entry's own name stands behind it and its NUL
pub record IsLockName (bytes name : List ℕ) : Type 0 where
  pub named : is_name (name_length bytes state_header_size) ≡ true
  pub state : IsStateName bytes name
  pub at : state_header_size + length name + 2 ≡ name_offset bytes
  pub within : state_header_size + length name + 2 ≤ length bytes

-- the names of an entry are these
pub record AreNames (bytes : List ℕ) (names : Names) : Type 0 where
  pub state : IsStateName bytes names.state.now
  pub own : lent_units names.own ≡ entry_name bytes (name_length bytes (name_offset bytes))
  pub own_fits : IfSome names.own (λ name. length (units_in name.now) ≤ longest_name)

-- some bytes more stand behind others
abbrev pub IsLonger : List ℕ → List ℕ → Type 0
IsLonger old new = (more : List ℕ) × (new ≡ old ++ more)

-- why bytes are refused as an entry: the first test that refuses them; a call that is out of memory has found none
abbrev pub RefusesEntry : List ℕ → EntryFault → Type 0
RefusesEntry bytes fault = (entry_of bytes ≡ Err fault) ⊎ ((fault ≡ OutOfMemory) × IsOk (entry_of bytes))
