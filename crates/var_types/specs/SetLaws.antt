-- What the set rule says of every set: which case answers, what those who carry a decision out may rely on, and what stays as it was.
use Rattle.std.specs.Prelude.{◌≡◌, ◌≢◌, ◌⊎◌, ℕ, ◌+◌, ◌^◌, ◌<◌, ◌≤◌, Bool, true, false, List, ◌++◌, length, take, replicate, slice_get, Option, Some, None, Ok, IsSome, IfSome}
use Rattle.var_types.specs.declared.call.SetCall.{SetCall}
use Rattle.var_types.specs.declared.decision.Decision.{Decision}
use Rattle.var_types.specs.declared.decision.Decision.TheVariants.{Refuse, Same, Remove, Write}
use Rattle.var_types.specs.declared.key.Key.{Key}
use Rattle.var_types.specs.declared.reply.SetReply.TheVariants.{Ok as Changed}
use Rattle.var_types.specs.declared.stamp.Stamp.{Stamp}
use Rattle.var_types.specs.declared.store.Store.{Store}
use Rattle.var_types.specs.declared.variable.Variable.{Variable}
use Rattle.var_types.specs.Attributes.{has, is_append, non_volatile_bit, runtime_access_bit, store_of, without_append}
use Rattle.var_types.specs.Layout.{largest_record}
use Rattle.var_types.specs.Name.{name_check}
use Rattle.var_types.specs.Reading.{made_of, reading_of, set_key}
use Rattle.var_types.specs.Room.{record_size, room_limit, room_needed}
use Rattle.var_types.specs.Set.{cases, change_of, decided, decision, set_step, variable_by}
use Rattle.var_types.specs.State.{State, stored_at}

-- of some cases one answers: it holds, and none before it does
pub record Answers (cs : List (Option Decision)) (d : Decision) : Type 0 where
  pub place : ℕ
  pub none_before : take place cs ≡ replicate place None
  pub holds : slice_get cs place ≡ Some (Some d)

-- none of some cases holds
abbrev pub NoneHolds : List (Option Decision) → Type 0
NoneHolds cs = cs ≡ replicate (length cs) None

-- a set comes to what one case of the rule answers, or to its change where no case holds
abbrev pub OneCaseAnswers : Type 0
OneCaseAnswers =
    (state : State) (call : SetCall)
    → Answers (cases state (reading_of state call)) (decision state call)
    ⊎ (NoneHolds (cases state (reading_of state call)) × (decision state call ≡ change_of (reading_of state call)))

-- where a case of the rule answers, a set comes to nothing else
abbrev pub NoOtherAnswers : Type 0
NoOtherAnswers =
    (state : State) (call : SetCall) (d : Decision) → Answers (cases state (reading_of state call)) d → decision state call ≡ d

-- what those who carry out a write may rely on: the key's name is well-formed and the history holds one more change; the variable is the one
-- that the rule makes, appended bytes included; its record and the room of its store are large enough; what is stored has the same attributes,
-- and is there where the write appends; the payload stands in the bytes; no bit but the eight that attributes have is written
pub record MayPut (state : State) (call : SetCall) (attributes : ℕ) (stamp : Stamp) (skip : ℕ) (append : Bool) : Type 0 where
  pub named : name_check call.name ≡ Ok tt
  pub more : state.made < state.limit
  pub made : variable_by call (stored_at state (set_key call)) attributes stamp skip append ≡ made_of (reading_of state call)
  pub size : record_size call.name (made_of (reading_of state call)).bytes ≤ largest_record
  pub room : room_needed state (set_key call) (made_of (reading_of state call)) ≤ room_limit (store_of attributes)
  pub alike : IfSome (stored_at state (set_key call)) (λ variable. variable.attributes ≡ attributes)
  pub appended : append ≡ true → IsSome (stored_at state (set_key call))
  pub within : skip ≤ length call.bytes
  pub known : call.attributes < 2 ^ 32 → attributes < 256

-- what those who carry out a deletion may rely on: the key's name is well-formed, a variable is stored in the store that is said, and the
-- history holds one more change
pub record MayRemove (state : State) (call : SetCall) (store : Store) : Type 0 where
  pub named : name_check call.name ≡ Ok tt
  pub variable : Variable
  pub stored : stored_at state (set_key call) ≡ Some variable
  pub in_store : store_of variable.attributes ≡ store
  pub more : state.made < state.limit

-- what those who carry out what a set comes to may rely on
abbrev pub Follows : State → SetCall → Decision → Type 0
Follows state call (Refuse reason) = Unit {0}
Follows state call Same = Unit {0}
Follows state call (Remove store) = MayRemove state call store
Follows state call (Write attributes stamp skip append) = MayPut state call attributes stamp skip append

-- what a set comes to decides its reply and the state that it leaves, and tells those who carry it out what they may rely on
abbrev pub DecisionsDecide : Type 0
DecisionsDecide =
    (state : State) (call : SetCall) (d : Decision) → d ≡ decision state call
    → (set_step state call ≡ decided state call d) × Follows state call d

-- a set that isn't answered Ok leaves the state (UEFI 2.10, 8.2.3)
abbrev pub OthersLeaveTheState : Type 0
OthersLeaveTheState = (state : State) (call : SetCall) → (set_step state call).0 ≢ Changed → (set_step state call).1 ≡ state

-- two states differ by one change at a key: it is counted, and all else stays
pub record IsOneChange (state next : State) (key : Key) : Type 0 where
  pub counted : next.made ≡ state.made + 1
  pub others : (other : Key) → other ≢ key → stored_at next other ≡ stored_at state other
  pub policies : next.policies ≡ state.policies
  pub policy_on : next.policy_on ≡ state.policy_on
  pub locked : next.locked ≡ state.locked
  pub runtime : next.runtime ≡ state.runtime
  pub limit : next.limit ≡ state.limit

-- a set that is answered Ok changes what is stored at its key alone (UEFI 2.10, 8.2.3)
abbrev pub ChangesTouchTheirKey : Type 0
ChangesTouchTheirKey =
    (state : State) (call : SetCall) → (set_step state call).0 ≡ Changed → IsOneChange state (set_step state call).1 (set_key call)

-- attributes have runtime access and are non-volatile
abbrev pub IsKeptAndSeen : ℕ → Type 0
IsKeptAndSeen attributes = (has attributes runtime_access_bit ≡ true) × (has attributes non_volatile_bit ≡ true)

-- what a set that makes a change at runtime touches: what is stored is non-volatile and seen by callers, and a new variable will be
abbrev pub TouchesSeen : SetCall → Option Variable → Type 0
TouchesSeen call None = IsKeptAndSeen call.attributes
TouchesSeen call (Some variable) = IsKeptAndSeen variable.attributes

-- at runtime a set changes only what is non-volatile and what callers see (UEFI 2.10, 8.2.3)
abbrev pub RuntimeChangesAreSeen : Type 0
RuntimeChangesAreSeen =
    (state : State) (call : SetCall) → state.runtime ≡ true → (set_step state call).0 ≡ Changed
    → TouchesSeen call (stored_at state (set_key call))

-- at runtime a variable that callers don't see stays (UEFI 2.10, 8.2.3)
abbrev pub HiddenStays : Type 0
HiddenStays =
    (state : State) (call : SetCall) (key : Key) (variable : Variable) → state.runtime ≡ true → stored_at state key ≡ Some variable
    → has variable.attributes runtime_access_bit ≡ false → stored_at (set_step state call).1 key ≡ Some variable

-- two variables are equal but for their stamps
pub record IsButForStamp (v w : Variable) : Type 0 where
  pub attributes : v.attributes ≡ w.attributes
  pub bytes : v.bytes ≡ w.bytes

-- an append to what is stored makes the variable that a set of the joined bytes makes, but for the stamp (UEFI 2.10, 8.2.3); the replies may
-- differ, since policies, sizes and stamps see the payload of each
abbrev pub AppendsJoin : Type 0
AppendsJoin =
    (state : State) (call joined : SetCall) (variable : Variable) → is_append call.attributes ≡ true
    → stored_at state (set_key call) ≡ Some variable → set_key joined ≡ set_key call → joined.attributes ≡ without_append call.attributes
    → (reading_of state joined).payload ≡ variable.bytes ++ (reading_of state call).payload
    → IsButForStamp (made_of (reading_of state call)) (made_of (reading_of state joined))
