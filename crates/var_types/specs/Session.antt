use Rattle.std.specs.Prelude.{◌≡◌, ℕ, ◌+◌, ◌<◌, ◌≤◌, ◌==◌, List, [], ◌∷◌, length, false, map, filter, All, if◌then◌else◌}
use Rattle.var_types.specs.declared.answered.Answered.{Answered}
use Rattle.var_types.specs.declared.answered.Route.TheVariants.{Plain}
use Rattle.var_types.specs.declared.call.Call.{Call}
use Rattle.var_types.specs.DeviceErrors.{IsReplyIn}
use Rattle.var_types.specs.History.{Entry, IsRightAt, run}
use Rattle.var_types.specs.State.{State}
use Rattle.var_types.specs.Step.{step, lacks_memory, is_change}

-- the calls of a processor's session
abbrev pub calls_of : List Answered → List Call
calls_of answered = map (λ a. a.call) answered

-- the change that a processor's answered call of this index makes
abbrev pub entry_of : ℕ → ℕ → Answered → Entry
entry_of processor index a = record { number = a.place; processor = processor; index = index; call = a.call }

-- the changes that a processor's answered calls make, the first of which has this index (this project's own)
abbrev pub changes_from : ℕ → ℕ → List Answered → List Entry
changes_from processor index [] = []
changes_from processor index (a ∷ rest) =
    if is_change a.reply then entry_of processor index a ∷ changes_from processor (index + 1) rest
    else changes_from processor (index + 1) rest

-- the history of a session of processor 0 alone (this project's own)
abbrev pub history_of : List Answered → List Entry
history_of answered = changes_from 0 0 answered

-- a processor's changes in a history, in order
abbrev pub entries_of : ℕ → List Entry → List Entry
entries_of processor history = filter (λ entry. entry.processor == processor) history

-- the state that an answered call leaves: what the one-thread service leaves, but a call that was out of memory changes nothing
abbrev pub state_after : State → Answered → State
state_after state a = if lacks_memory a.call a.reply then state else (step state a.call).1

-- the calls were stepped through the one-thread service in order from a state: each place is the number of changes before the call,
-- and each reply is the service's, unless the call was out of memory (this project's own)
abbrev pub AreStepped : State → List Answered → Type 0
AreStepped state [] = Unit {0}
AreStepped state (a ∷ rest) =
    (a.place ≡ state.made) × (a.route ≡ Plain) × (lacks_memory a.call a.reply ≡ false → a.reply ≡ (step state a.call).0)
    × AreStepped (state_after state a) rest

-- a call was answered as the service stands after a whole history (this project's own)
pub record IsAnsweredAfter (state : State) (history : List Entry) (a : Answered) : Type 0 where
  pub place : a.place ≡ length history
  pub route : a.route ≡ Plain
  pub reply : IsReplyIn (run state history) a.call a.reply

-- each of a processor's answered calls is right at its place of a history; the first of them has this index
abbrev pub AreRight : State → List Entry → ℕ → ℕ → List Answered → Type 0
AreRight state history processor index [] = Unit {0}
AreRight state history processor index (a ∷ rest) =
    IsRightAt state history a.place processor index a.call a.reply × AreRight state history processor (index + 1) rest

-- the same of several processors, the first of which has this number
abbrev pub AreAllRight : State → List Entry → ℕ → List (List Answered) → Type 0
AreAllRight state history processor [] = Unit {0}
AreAllRight state history processor (answered ∷ rest) =
    AreRight state history processor 0 answered × AreAllRight state history (processor + 1) rest

-- the least place of the call behind an answered one: its place, or above it where it made a change
abbrev pub place_behind : Answered → ℕ
place_behind a = if is_change a.reply then a.place + 1 else a.place

-- the places of a processor's answered calls never fall from this one on, and after a change they are above it
abbrev pub AreOrderedFrom : ℕ → List Answered → Type 0
AreOrderedFrom least [] = Unit {0}
AreOrderedFrom least (a ∷ rest) = (least ≤ a.place) × AreOrderedFrom (place_behind a) rest

-- the changes of a history are those of these processors' answered calls, each once and in its processor's order, from the processor of
-- this number on (this project's own)
abbrev pub AreChangesOf : List Entry → ℕ → List (List Answered) → Type 0
AreChangesOf history processor [] = All (λ entry. entry.processor < processor) history
AreChangesOf history processor (answered ∷ rest) =
    (entries_of processor history ≡ changes_from processor 0 answered) × AreChangesOf history (processor + 1) rest

-- the routes are plain
abbrev pub ArePlain : List Answered → Type 0
ArePlain answered = All (λ a. a.route ≡ Plain) answered

-- a legal session of processors, by their answered calls from processor 0 on: the replies are right at their places of the history, each
-- processor's places are in order, each change stands in the history once, and the routes are plain (this project's own)
pub record IsLegalSession (state : State) (history : List Entry) (processors : List (List Answered)) : Type 0 where
  pub right : AreAllRight state history 0 processors
  pub ordered : All (AreOrderedFrom 0) processors
  pub once : AreChangesOf history 0 processors
  pub plain : All ArePlain processors
