-- The policy rule: what calls about the policies answer, and the state that they leave.
use Rattle.std.specs.Prelude.{◌≡◌, ℕ, ◌+◌, ◌==◌, ◌&&◌, Bool, true, false, List, [], ◌∷◌, ◌++◌, length, position, slice_get, nat_le, if◌then◌else◌, Option, Some, None, Result, Ok, Err}
use Rattle.var_types.specs.declared.entry_fault.EntryFault.{EntryFault}
use Rattle.var_types.specs.declared.entry_fault.EntryFault.TheVariants as fault
use Rattle.var_types.specs.declared.policy.Policy.{Policy}
use Rattle.var_types.specs.declared.policy_call.PolicyCall.{PolicyCall}
use Rattle.var_types.specs.declared.policy_call.PolicyCall.TheVariants.{Register, Lock, Disable, Enabled, At}
use Rattle.var_types.specs.declared.policy_reason.PolicyReason.{PolicyReason}
use Rattle.var_types.specs.declared.policy_reason.PolicyReason.TheVariants.{Locked, Entry, Already, TableFull, HistoryFull, AlreadyOff, NoEntry, OutOfMemory}
use Rattle.var_types.specs.declared.policy_reply.PolicyReply.{PolicyReply}
use Rattle.var_types.specs.declared.policy_reply.PolicyReply.TheVariants.{Ok as Changed, On, Off, Entry as GivesEntry, Refused}
use Rattle.var_types.specs.PolicyEntry.{entry_bytes, entry_of}
use Rattle.var_types.specs.State.{State}
use lib.Pointwise.{pointwise}

-- the most policies (this project's own)
abbrev pub most_policies : ℕ
most_policies = 1024

-- whether two names of policies are one
abbrev pub is_same_name : Option (List ℕ) → Option (List ℕ) → Bool
is_same_name None None = true
is_same_name (Some units) (Some others) = pointwise ◌==◌ units others
is_same_name _ _ = false

-- whether two policies have one namespace and one name (EDK II, RegisterVariablePolicy, EFI_ALREADY_STARTED)
unfoldable pub is_same_entry : Policy → Policy → Bool
is_same_entry policy other = pointwise ◌==◌ policy.namespace.bytes other.namespace.bytes && is_same_name policy.name other.name

-- a policy that may be registered beside these, if none of them has its namespace and name and there are fewer than 1,024
abbrev pub if_new : List Policy → Policy → Option ℕ → Result Policy PolicyReason
if_new policies policy (Some place) = Err (Already place)
if_new policies policy None = if nat_le most_policies (length policies) then Err (TableFull most_policies) else Ok policy

-- the policy of an entry that was read, if it may be registered
abbrev pub if_read : List Policy → Result Policy EntryFault → Result Policy PolicyReason
if_read policies (Err fault) = Err (Entry fault)
if_read policies (Ok policy) = if_new policies policy (position (is_same_entry policy) policies)

-- the policy that an entry registers beside these, or why none: they are locked, the entry is refused, one of them has its namespace and
-- name, there are 1,024 (EDK II, RegisterVariablePolicy; the order and the bound are this project's own)
unfoldable pub registered : List Policy → Bool → List ℕ → Result Policy PolicyReason
registered policies locked bytes = if locked then Err Locked else if_read policies (entry_of bytes)

-- whether the policies may be locked: they aren't yet (EDK II, LockVariablePolicy)
abbrev pub may_lock : Bool → Result (Unit {0}) PolicyReason
may_lock locked = if locked then Err Locked else Ok tt

-- whether policy may be turned off: it is on, and the policies aren't locked (EDK II, DisableVariablePolicy)
abbrev pub may_disable : Bool → Bool → Result (Unit {0}) PolicyReason
may_disable on locked = if on then may_lock locked else Err AlreadyOff

-- the entry of the policy at a place, or how many there are (this project's own)
abbrev pub entry_at : List Policy → Option Policy → Result (List ℕ) PolicyReason
entry_at policies None = Err (NoEntry (length policies))
entry_at policies (Some policy) = Ok (entry_bytes policy)

-- a change to another state, which is counted, unless the history is full (this project's own)
abbrev pub counted : State → State → PolicyReply × State
counted state next =
    if nat_le state.limit state.made then (Refused (HistoryFull state.made), state)
    else (Changed, record next { made = state.made + 1 })

-- a policy is put behind the others
abbrev pub register_outcome : State → Result Policy PolicyReason → PolicyReply × State
register_outcome state (Err reason) = (Refused reason, state)
register_outcome state (Ok policy) = counted state (record state { policies = state.policies ++ policy ∷ [] })

-- a change that may be made, or the refusal
abbrev pub change_outcome : State → State → Result (Unit {0}) PolicyReason → PolicyReply × State
change_outcome state next (Err reason) = (Refused reason, state)
change_outcome state next (Ok u) = counted state next

-- the reply to a call for an entry
abbrev pub entry_reply : Result (List ℕ) PolicyReason → PolicyReply
entry_reply (Err reason) = Refused reason
entry_reply (Ok bytes) = GivesEntry bytes

-- the policy rule: the reply of a call about the policies and the state that it leaves (EDK II, EDKII_VARIABLE_POLICY_PROTOCOL; the call
-- for one entry is this project's own)
unfoldable pub policy_step : State → PolicyCall → PolicyReply × State
policy_step state (Register bytes) = register_outcome state (registered state.policies state.locked bytes)
policy_step state Lock = change_outcome state (record state { locked = true }) (may_lock state.locked)
policy_step state Disable = change_outcome state (record state { policy_on = false }) (may_disable state.policy_on state.locked)
policy_step state Enabled = (if state.policy_on then On else Off, state)
policy_step state (At place) = (entry_reply (entry_at state.policies (slice_get state.policies place)), state)

-- whether a call about the policies takes memory (this project's own)
abbrev pub takes_memory : PolicyCall → Bool
takes_memory (Register bytes) = true
takes_memory (At place) = true
takes_memory _ = false

-- a reason that a reply gives: want of memory is a reply of its own, and a full table has 1,024 policies (this project's own)
abbrev pub IsGivenReason : PolicyReason → Type 0
IsGivenReason OutOfMemory = ⊥
IsGivenReason (Entry fault.OutOfMemory) = ⊥
IsGivenReason (TableFull entries) = entries ≡ most_policies
IsGivenReason _ = Unit {0}

-- a reply to a call about the policies has a reason that a reply gives, where it is refused
abbrev pub IsPolicyReply : PolicyReply → Type 0
IsPolicyReply (Refused reason) = IsGivenReason reason
IsPolicyReply _ = Unit {0}
