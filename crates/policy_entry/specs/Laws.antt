-- What reading and writing entries say of every policy and of any bytes.
use Rattle.std.specs.Prelude.{◌≡◌, ℕ, List, ◌∷◌, ◌++◌, take, drop, if◌then◌else◌, Ok}
use Rattle.var_types.specs.declared.policy.Policy.{Policy}
use Rattle.var_types.specs.PolicyEntry.{CanSpell, entry_bytes, entry_of, locks_on_state}
use Rattle.var_types.specs.Values.{AreBytes}

-- the entry of a policy reads back as the policy, for every policy that an entry can spell
abbrev pub EntriesReadBack : Type 0
EntriesReadBack = (policy : Policy) → CanSpell policy → entry_of (entry_bytes policy) ≡ Ok policy

-- what follows the fixed fields of an entry, with the byte of padding behind the Value of a lock on a variable's state 0
abbrev pub unpadded_rest : List ℕ → List ℕ
unpadded_rest bytes = if locks_on_state bytes then take 17 (drop 44 bytes) ++ 0 ∷ drop 62 bytes else drop 44 bytes

-- an entry with each byte of padding 0 (EDK II, VARIABLE_POLICY_ENTRY)
abbrev pub unpadded : List ℕ → List ℕ
unpadded bytes = take 41 bytes ++ (0 ∷ 0 ∷ 0 ∷ unpadded_rest bytes)

-- the policy that is read of an entry is written as the entry, with its padding 0
abbrev pub EntriesAreWritten : Type 0
EntriesAreWritten = (bytes : List ℕ) (policy : Policy) → AreBytes bytes → entry_of bytes ≡ Ok policy → entry_bytes policy ≡ unpadded bytes
