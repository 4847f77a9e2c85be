-- What the calls of a table answer.
use Rattle.std.specs.Prelude.{◌≡◌, ◌⊎◌, ℕ, List, [], ◌∷◌, ◌++◌, slice_get, Some, Ok, Err}
use Rattle.policy_table.specs.PolicyState.{PolicyState, with_policies}
use Rattle.var_types.specs.declared.entry_fault.EntryFault.{EntryFault}
use Rattle.var_types.specs.declared.entry_fault.EntryFault.TheVariants.{OutOfMemory as NoMemory}
use Rattle.var_types.specs.declared.policy.Policy.{Policy}
use Rattle.var_types.specs.declared.policy_reason.PolicyReason.{PolicyReason}
use Rattle.var_types.specs.declared.policy_reason.PolicyReason.TheVariants.{Entry, OutOfMemory}
use Rattle.var_types.specs.declared.policy_reply.PolicyReply.{PolicyReply}
use Rattle.var_types.specs.declared.policy_reply.PolicyReply.TheVariants.{OutOfMemory as LacksMemory, Refused}
use Rattle.var_types.specs.PolicyEntry.{entry_bytes}
use Rattle.var_types.specs.PolicyStep.{entry_at, registered}
use Rattle.var_types.specs.State.{State}

-- the reason that a fault of an entry is: want of memory is one of its own
abbrev pub reason_of : EntryFault → PolicyReason
reason_of NoMemory = OutOfMemory
reason_of fault = Entry fault

-- why an entry isn't registered: the policy rule says so, or the call is out of memory
abbrev pub RefusesRegister : PolicyState → List ℕ → PolicyReason → Type 0
RefusesRegister table entry reason = (registered table.policies table.locked entry ≡ Err reason) ⊎ (reason ≡ OutOfMemory)

-- the policy of an entry is put behind the others
abbrev pub Registers : PolicyState → List ℕ → PolicyState → Type 0
Registers old entry new =
    (policy : Policy) × (registered old.policies old.locked entry ≡ Ok policy) × (new ≡ record old { policies = old.policies ++ policy ∷ [] })

-- why the entry of a place isn't given: there is none, or the call is out of memory
abbrev pub RefusesEntryAt : PolicyState → ℕ → PolicyReason → Type 0
RefusesEntryAt table place reason = (entry_at table.policies (slice_get table.policies place) ≡ Err reason) ⊎ (reason ≡ OutOfMemory)

-- the entry of a place is appended
abbrev pub AppendsEntryAt : PolicyState → ℕ → List ℕ → List ℕ → Type 0
AppendsEntryAt table place old new = (policy : Policy) × (slice_get table.policies place ≡ Some policy) × (new ≡ old ++ entry_bytes policy)

-- the reply to a refusal: want of memory is a reply of its own
abbrev pub refused_reply : PolicyReason → PolicyReply
refused_reply OutOfMemory = LacksMemory
refused_reply reason = Refused reason

-- a state with a table's policies, and with so many changes made and allowed
abbrev pub state_with : State → PolicyState → ℕ → ℕ → State
state_with state table made limit = record (with_policies state table) { made = made; limit = limit }
