use Rattle.std.specs.Prelude.{◌≡◌, ℕ, List, [], ◌∷◌, ◌++◌, length, map, All, Ok}
use Rattle.std.specs.BTreeMap.{is_at}
use Rattle.std.specs.List.Sorted.{IsStrictlySortedBy}
use Rattle.std.specs.Map.{keys_of, lookup}
use Rattle.var_types.specs.declared.answered.Answered.{Answered}
use Rattle.var_types.specs.declared.call.Call.{Call}
use Rattle.var_types.specs.declared.guid.Guid.{Guid}
use Rattle.var_types.specs.declared.key.Key.{Key}
use Rattle.var_types.specs.declared.record.Record.{Record}
use Rattle.var_types.specs.declared.reply.Reply.{Reply}
use Rattle.var_types.specs.Chosen.{chosen, variable_of}
use Rattle.var_types.specs.Guid.{IsGuid, guid_of, guid_text}
use Rattle.var_types.specs.History.{Entry, IsRightAt, run}
use Rattle.var_types.specs.Key.{key_cmp}
use Rattle.var_types.specs.Live.{Live}
use Rattle.var_types.specs.Record.{Form, HasRecords, records}
use Rattle.var_types.specs.Region.{Region, region_lives, map_of, region_map}
use Rattle.var_types.specs.Session.{AreStepped, IsAnsweredAfter, IsLegalSession, changes_from, history_of, state_after}
use Rattle.var_types.specs.State.{State}
use Rattle.var_types.specs.Step.{IsOfKind}

-- the state that answered calls leave, one after the other (this project's own)
abbrev pub state_left : State → List Answered → State
state_left state [] = state
state_left state (a ∷ rest) = state_left (state_after state a) rest

-- the calls of the changes of a history, in order (this project's own)
abbrev pub changes_of : List Entry → List Call
changes_of history = map (λ entry. entry.call) history

-- a reply that is right at a place of a history is of its call's kind
abbrev pub RightRepliesFit : Type 0
RightRepliesFit =
    (state : State) (history : List Entry) (place processor index : ℕ) (call : Call) (reply : Reply)
    → IsRightAt state history place processor index call reply → IsOfKind call reply

-- a reply that is right at a place of a history is right there in a longer one
abbrev pub RightRepliesStayRight : Type 0
RightRepliesStayRight =
    (state : State) (history more : List Entry) (place processor index : ℕ) (call : Call) (reply : Reply)
    → IsRightAt state history place processor index call reply → IsRightAt state (history ++ more) place processor index call reply

-- the replies of calls stepped through the one-thread service are of their calls' kinds
abbrev pub SteppedRepliesFit : Type 0
SteppedRepliesFit =
    (state : State) (answered : List Answered) → AreStepped state answered → All (λ a. IsOfKind a.call a.reply) answered

-- one processor's calls stepped through the one-thread service from a state without changes are a legal session of that one, by the
-- history that they make
abbrev pub SteppedSessionsAreLegal : Type 0
SteppedSessionsAreLegal =
    (state : State) (answered : List Answered) → state.made ≡ 0 → AreStepped state answered
    → IsLegalSession state (history_of answered) (answered ∷ [])

-- a legal session grows by a call of any of its processors that is answered after its history
abbrev pub LegalSessionsGrow : Type 0
LegalSessionsGrow =
    (state : State) (history : List Entry) (front rest : List (List Answered)) (answered : List Answered) (a : Answered)
    → IsLegalSession state history (front ++ answered ∷ rest) → IsAnsweredAfter state history a
    → IsLegalSession state (history ++ changes_from (length front) (length answered) (a ∷ [])) (front ++ (answered ++ a ∷ []) ∷ rest)

-- a processor's calls stepped through the one-thread service leave the state that the changes among them leave
abbrev pub ChangesLeaveTheState : Type 0
ChangesLeaveTheState =
    (state : State) (processor : ℕ) (answered : List Answered) → AreStepped state answered
    → state_left state answered ≡ run state (changes_from processor 0 answered)

-- two sessions stepped from one state, whose changes are the same calls in the same order, leave the same state
abbrev pub SameChangesLeaveTheSameState : Type 0
SameChangesLeaveTheSameState =
    (state : State) (xs ys : List Answered) → AreStepped state xs → AreStepped state ys
    → changes_of (history_of xs) ≡ changes_of (history_of ys) → state_left state xs ≡ state_left state ys

-- the text of a GUID reads back as the GUID
abbrev pub GuidsReadBack : Type 0
GuidsReadBack = (guid : Guid) → IsGuid guid → guid_of (guid_text guid) ≡ Ok guid

-- any bytes have the list of records that a walk finds
abbrev pub BytesHaveRecords : Type 0
BytesHaveRecords = (form : Form) (bytes : List ℕ) (at : ℕ) → HasRecords form bytes at (records form bytes at)

-- any bytes have no other list of records
abbrev pub BytesHaveOneList : Type 0
BytesHaveOneList = (form : Form) (bytes : List ℕ) (at : ℕ) (rs : List Record) → HasRecords form bytes at rs → rs ≡ records form bytes at

-- the map of live records stands in strict key order
abbrev pub MapsStandInKeyOrder : Type 0
MapsStandInKeyOrder = (ls : List Live) → IsStrictlySortedBy key_cmp (keys_of (map_of ls))

-- the map of live records has at each key the variable of the record that counts for it, and at no other key one
abbrev pub MapsHoldWhatCounts : Type 0
MapsHoldWhatCounts =
    (ls : List Live) (key : Key)
    → lookup (is_at (key_cmp key)) (map_of ls) ≡ variable_of (chosen key ls)

-- the map of a region depends on its live records alone: regions in which the same variable counts for each key have the same map
abbrev pub WhatCountsDecidesTheMap : Type 0
WhatCountsDecidesTheMap =
    (a b : Region)
    → ((key : Key) → variable_of (chosen key (region_lives a)) ≡ variable_of (chosen key (region_lives b)))
    → region_map a ≡ region_map b
