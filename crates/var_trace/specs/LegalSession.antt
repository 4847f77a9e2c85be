-- Legal sessions of several processors, of which calls may be in progress.
use Rattle.std.specs.Prelude.{◌≡◌, ℕ, ◌<◌, true, List, ◌++◌, length, slice_get, All, Option, Some, IfSome, option_to_list}
use Rattle.var_types.specs.declared.answered.Answered.{Answered}
use Rattle.var_types.specs.History.{Entry, after}
use Rattle.var_types.specs.Session.{AreOrderedFrom, AreRight, changes_from, entries_of}
use Rattle.var_types.specs.State.{State}
use Rattle.var_types.specs.Step.{is_change, step}
use Rattle.var_trace.specs.Routes.{IsRouted}

-- the changes of a processor in a history are those of its answered calls, each once and in their order, and at most one more, which its first
-- call without an answer made (this project's own)
pub record HasItsChanges (history : List Entry) (processor : ℕ) (answered : List Answered) : Type 0 where
  pub unanswered : Option Entry
  pub is : entries_of processor history ≡ changes_from processor 0 answered ++ option_to_list unanswered
  pub next : IfSome unanswered (λ entry. entry.index ≡ length answered)

-- what holds of one processor's answered calls in a legal session of so many: each reply is right at its place, the places are in order, its
-- changes stand in the history once, and the routes are those that its calls may have (this project's own)
pub record IsLegalFor (state : State) (history : List Entry) (processors processor : ℕ) (answered : List Answered) : Type 0 where
  pub right : AreRight state history processor 0 answered
  pub ordered : AreOrderedFrom 0 answered
  pub once : HasItsChanges history processor answered
  pub routed : All (IsRouted processors processor) answered

-- an entry of a history has its number, and its call is a change there (this project's own)
pub record IsChangeAt (state : State) (history : List Entry) (place : ℕ) (entry : Entry) : Type 0 where
  pub number : entry.number ≡ place
  pub change : is_change (step (after state history place) entry.call).0 ≡ true

-- a legal session of processors so far, by their answered calls from processor 0 on (this project's own)
pub record IsLegalSoFar (state : State) (history : List Entry) (processors : List (List Answered)) : Type 0 where
  pub each : (processor : ℕ) (answered : List Answered) → slice_get processors processor ≡ Some answered
      → IsLegalFor state history (length processors) processor answered
  pub changes : (number : ℕ) (entry : Entry) → slice_get history number ≡ Some entry → IsChangeAt state history number entry
  pub known : All (λ entry. entry.processor < length processors) history
