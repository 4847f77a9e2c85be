-- The replies to calls about the policies: a refusal gives no want of memory as its reason, and a full table has 1,024 policies.
use Rattle.std.proofs.Common.{◌+◌, ℕ, Bool, true, false, List, [], ◌∷◌, ◌++◌, Option, Some, None, Ok, Err, refl}
use Rattle.std.specs.List.{AllByRecursion}
use Rattle.std.specs.Prelude.{Result, length, nat_le, position, slice_get, if◌then◌else◌}
use Rattle.var_types.specs.PolicyEntry.{entry_of, entry_read, entry_tests, fault_if, first_fault}
use Rattle.var_types.specs.PolicyStep.{IsGivenReason, IsPolicyReply, change_outcome, counted, entry_at, entry_reply, if_new, if_read, is_same_entry, may_disable, may_lock, most_policies, policy_step, register_outcome, registered}
use Rattle.var_types.specs.State.{State}
use Rattle.var_types.specs.declared.entry_fault.EntryFault.{EntryFault}
use Rattle.var_types.specs.declared.entry_fault.EntryFault.TheVariants as fault
use Rattle.var_types.specs.declared.policy.Policy.{Policy}
use Rattle.var_types.specs.declared.policy_call.PolicyCall.{PolicyCall}
use Rattle.var_types.specs.declared.policy_call.PolicyCall.TheVariants.{At, Disable, Enabled, Lock, Register}
use Rattle.var_types.specs.declared.policy_reason.PolicyReason.{PolicyReason}
use Rattle.var_types.specs.declared.policy_reason.PolicyReason.TheVariants.{Entry, HistoryFull, TableFull}
use Rattle.var_types.specs.declared.policy_reply.PolicyReply.{PolicyReply}
use Rattle.var_types.specs.declared.policy_reply.PolicyReply.TheVariants.{Ok as Changed, Off, On, Refused}

-- what a test of an entry may find
IsFound : Option EntryFault → Type 0
IsFound None = Unit {0}
IsFound (Some fault) = IsGivenReason (Entry fault)

-- a test finds its fault or none
found_if : (holds : Bool) (f : EntryFault) → IsGivenReason (Entry f) → IsFound (fault_if holds f)
unfolding IsFound
found_if true f given = given
found_if false f given = tt

-- the tests of an entry
tests_find : (bytes : List ℕ) → AllByRecursion IsFound (entry_tests bytes)
unfolding entry_tests
tests_find bytes = (
  found_if _ fault.Size tt,
  (found_if _ fault.Version tt, (found_if _ (fault.LockType _) tt, (found_if _ fault.NameForm tt, (found_if _ fault.Offset tt, (found_if _ fault.NameForm tt, (found_if _ (fault.Wildcards _) tt, (found_if _ fault.MinAboveMax tt, tt))))))),
)

-- the first fault of tests
first_is_found : (tests : List (Option EntryFault)) → AllByRecursion IsFound tests → IsFound (first_fault tests)
unfolding IsFound
first_is_found [] found = tt
first_is_found (None ∷ tests) found = first_is_found tests found.1
first_is_found (Some f ∷ tests) found = found.0

-- the reason that a fault of an entry is
abbrev if_fault : Result Policy EntryFault → Result Policy PolicyReason
if_fault (Err f) = Err (Entry f)
if_fault (Ok policy) = Ok policy

-- a refusal, where there is one, has a reason that a reply gives
pub IsGiven : {A : Type 0} → Result A PolicyReason → Type 0
IsGiven (Ok x) = Unit {0}
IsGiven (Err reason) = IsGivenReason reason

-- a policy is new among these, or a reason tells why not
given_new : (policies : List Policy) (policy : Policy) (found : Option ℕ) → IsGiven (if_new policies policy found)
unfolding IsGiven
given_new policies policy (Some place) = tt
given_new policies policy None = by (nat_le most_policies (length policies))
  where
    by : (full : Bool) → IsGiven (if full then Err (TableFull most_policies) else Ok policy)
    by true = refl
    by false = tt

-- an entry that was read
given_read : (policies : List Policy) (read : Result Policy EntryFault) → IsGiven (if_fault read) → IsGiven (if_read policies read)
unfolding IsGiven
given_read policies (Err f) given = given
given_read policies (Ok policy) given = given_new policies policy (position (is_same_entry policy) policies)

-- bytes as an entry
given_fault : (bytes : List ℕ) (found : Option EntryFault) → IsFound found → IsGiven (if_fault (entry_read bytes found))
unfolding IsGiven IsFound
given_fault bytes None found = tt
given_fault bytes (Some f) found = found

-- an entry that is to be registered
pub given_registered : (policies : List Policy) (locked : Bool) (bytes : List ℕ) → IsGiven (registered policies locked bytes)
unfolding registered entry_of IsGiven
given_registered policies true bytes = tt
given_registered policies false bytes =
    given_read policies (entry_of bytes)
    (given_fault bytes (first_fault (entry_tests bytes)) (first_is_found (entry_tests bytes) (tests_find bytes)))

-- a lock, and a call to turn policy off
given_lock : (locked : Bool) → IsGiven (may_lock locked)
unfolding IsGiven
given_lock true = tt
given_lock false = tt

given_disable : (on locked : Bool) → IsGiven (may_disable on locked)
unfolding IsGiven
given_disable true locked = given_lock locked
given_disable false locked = tt

-- an entry of the policies
given_entry : (policies : List Policy) (found : Option Policy) → IsGiven (entry_at policies found)
unfolding IsGiven
given_entry policies None = tt
given_entry policies (Some policy) = tt

-- ---- replies

-- a change that is counted
reply_counted : (state next : State) → IsPolicyReply (counted state next).0
reply_counted state next = by (nat_le state.limit state.made)
  where
    by : (full : Bool)
        → IsPolicyReply
        (if◌then◌else◌ {A = PolicyReply × State} full (Refused (HistoryFull state.made), state)
        (Changed, record next { made = state.made + 1 })).0
    by true = tt
    by false = tt

-- a policy that is registered or not
reply_registered : (state : State) (outcome : Result Policy PolicyReason) → IsGiven outcome → IsPolicyReply (register_outcome state outcome).0
unfolding IsGiven
reply_registered state (Err reason) given = given
reply_registered state (Ok policy) given = reply_counted state (record state { policies = state.policies ++ policy ∷ [] })

-- another change that may be made or not
reply_changed : (state next : State) (may : Result (Unit {0}) PolicyReason) → IsGiven may → IsPolicyReply (change_outcome state next may).0
unfolding IsGiven
reply_changed state next (Err reason) given = given
reply_changed state next (Ok u) given = reply_counted state next

-- an entry
reply_entry : (outcome : Result (List ℕ) PolicyReason) → IsGiven outcome → IsPolicyReply (entry_reply outcome)
unfolding IsGiven
reply_entry (Err reason) given = given
reply_entry (Ok bytes) given = tt

-- whether policy is on
reply_enabled : (on : Bool) → IsPolicyReply (if on then On else Off)
reply_enabled true = tt
reply_enabled false = tt

-- any call about the policies
pub IsPolicyReply-step : (state : State) (call : PolicyCall) → IsPolicyReply (policy_step state call).0
unfolding policy_step
IsPolicyReply-step state (Register bytes) =
    reply_registered state (registered state.policies state.locked bytes) (given_registered state.policies state.locked bytes)
IsPolicyReply-step state Lock = reply_changed state (record state { locked = true }) (may_lock state.locked) (given_lock state.locked)
IsPolicyReply-step state Disable =
    reply_changed state (record state { policy_on = false }) (may_disable state.policy_on state.locked)
    (given_disable state.policy_on state.locked)
IsPolicyReply-step state Enabled = reply_enabled state.policy_on
IsPolicyReply-step state (At place) =
    reply_entry (entry_at state.policies (slice_get state.policies place)) (given_entry state.policies (slice_get state.policies place))
