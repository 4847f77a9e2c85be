-- What a run of a script on an image prints and leaves.
use Rattle.std.specs.Prelude.{◌≡◌, ◌⊎◌, ℕ, ◌+◌, ◌-◌, ◌^◌, ◌≤◌, Bool, true, false, List, [], ◌∷◌, length, filter, flat_map, map, max, sum_by, Option, Ok, Err, IsErr, IsOk, IfSome, IsSomeAnd, All, if◌then◌else◌}
use Rattle.std.specs.List.{Contains, list_any}
use Rattle.ftw_mount.specs.Mount.{content_geometry}
use Rattle.mm_writer.specs.Doubt.{IsInDoubt, SetInDoubt, variables_at, variables_with}
use Rattle.report_text.specs.Fitting.{IsFitting}
use Rattle.report_text.specs.Session.{history_from, report_of}
use Rattle.script_text.specs.declared.script_fault.ScriptFault.{ScriptFault}
use Rattle.script_text.specs.Script.{script_of}
use Rattle.var_types.specs.declared.answered.Answered.{Answered}
use Rattle.var_types.specs.declared.call.Call.TheVariants.{Set}
use Rattle.var_types.specs.DeviceErrors.{is_device_error}
use Rattle.var_types.specs.History.{Entry}
use Rattle.var_types.specs.Kept.{IsSound, kept}
use Rattle.var_types.specs.Session.{AreStepped, IsLegalSession, calls_of}
use Rattle.var_types.specs.State.{State, start}
use Rattle.var_types.specs.Step.{is_change, lacks_memory}
use Rattle.varsvc.specs.FaultLines.{script_line}
use Rattle.varsvc.specs.Told.{Told}

-- the state from which calls run on an image: the variables that it keeps, and as many changes at most as there are calls, at least 1 (this
-- project's own)
abbrev pub start_on : List ℕ → ℕ → State
start_on image calls = start (kept image) (max calls 1)

-- the answered calls of all processors, one processor after the other
abbrev pub all_answered : List (List Answered) → List Answered
all_answered processors = flat_map (λ answered. answered) processors

-- answered calls were made one after the other: the place of each is the number of the changes before it, of which so many were made before the
-- first (this project's own)
abbrev pub AreInTurn : ℕ → List Answered → Type 0
AreInTurn made [] = Unit {0}
AreInTurn made (a ∷ rest) = (a.place ≡ made) × AreInTurn (if is_change a.reply then made + 1 else made) rest

-- how many replies say that the flash failed
abbrev pub failures : List Answered → ℕ
failures answered = length (filter (λ a. is_device_error a.reply) answered)

-- a set is among answered calls, at its place, and its reply says that the flash failed
pub record WasFailed (answers : List Answered) (set : SetInDoubt) : Type 0 where
  pub answer : Answered
  pub answered : Contains answers answer
  pub call : answer.call ≡ Set set.call
  pub place : answer.place ≡ set.place
  pub device : is_device_error answer.reply ≡ true

-- an image keeps the non-volatile variables after a front of a history
abbrev pub IsFrontLeft : State → List Entry → List ℕ → Type 0
IsFrontLeft first history left = (k : ℕ) × (k ≤ length history) × (kept left ≡ variables_at first history k)

-- an image keeps those that a set whose reply says that the flash failed would have left at its place in the history
pub record IsLeftBySet (first : State) (history : List Entry) (answers : List Answered) (left : List ℕ) : Type 0 where
  pub set : SetInDoubt
  pub failed : WasFailed answers set
  pub place : set.place ≤ length history
  pub kept : kept left ≡ variables_with first history set

-- the same, and no change of the history behind the set changes a non-volatile variable: the image keeps the history's non-volatile variables with
-- that one set more
pub record HasSetMore (first : State) (history : List Entry) (answers : List Answered) (left : List ℕ) : Type 0 where
  pub set : SetInDoubt
  pub failed : WasFailed answers set
  pub doubt : IsInDoubt first history set
  pub kept : kept left ≡ variables_with first history set

-- an image that a run may leave at its end: it keeps the non-volatile variables after the whole history, or those with one set more, which failed
abbrev pub KeepsRun : State → List Entry → List Answered → List ℕ → Type 0
KeepsRun first history answers left = (kept left ≡ variables_at first history (length history)) ⊎ HasSetMore first history answers left

-- an image that a power loss within a run may leave: it keeps the non-volatile variables after a front of the history, or those with a set more that
-- failed
abbrev pub IsRunLeft : State → List Entry → List Answered → List ℕ → Type 0
IsRunLeft first history answers left = IsFrontLeft first history left ⊎ IsLeftBySet first history answers left

-- what a run of a session leaves of the image, whatever fails and however often: what it keeps at the end, and what a power loss at any moment keeps.
-- There are as many replies at most that say that the flash failed as calls of it did; where there are none, none did (this project's own)
pub record LeavesRun (told : Told) (first : State) (processors : List (List Answered)) : Type 0 where
  pub keeps : IfSome told.image (λ image. IsSomeAnd told.after (KeepsRun first (history_from 0 processors) (all_answered processors)))
  pub at_any_moment : IfSome told.image (λ image. (left : List ℕ) → told.left left → IsRunLeft first (history_from 0 processors) (all_answered processors) left)
  pub calm : failures (all_answered processors) ≡ 0 → told.faults_after ≡ told.faults
  pub failed : (told.faults + failures (all_answered processors) ≤ told.faults_after) ⊎ (2 ^ 64 - 1 ≤ told.faults_after)

-- the calls of a script were run on an image that is accepted: all of processor 0 first, then all of processor 1, and so on, each at the place
-- behind the changes before it, and all are answered; it is a legal session from the variables that the image keeps, its history being the
-- changes of the calls; and the run leaves what it has to (this project's own)
pub record WasRun (told : Told) (processors : List (List Answered)) : Type 0 where
  pub first : State
  pub opened : IfSome told.image (λ image. first ≡ start_on image (sum_by length processors))
  pub accepted : IfSome told.image (λ image. IsOk (content_geometry image) × IsSound image)
  pub script : IfSome told.input (λ input. script_of input ≡ Ok (map calls_of processors))
  pub legal : IsLegalSession first (history_from 0 processors) processors
  pub in_turn : AreInTurn 0 (all_answered processors)
  pub leaves : LeavesRun told first processors

-- the image stays as it is, at each moment too, and no call of the flash failed
pub record LeavesUntouched (told : Told) : Type 0 where
  pub same : told.after ≡ told.image
  pub at_any_moment : IfSome told.image (λ image. (left : List ℕ) → told.left left → left ≡ image)
  pub calm : told.faults_after ≡ told.faults

-- the variables that the image keeps stay as they are, at each moment too
pub record LeavesVariables (told : Told) : Type 0 where
  pub now : IfSome told.image (λ image. IsSomeAnd told.after (λ left. kept left ≡ kept image))
  pub at_any_moment : IfSome told.image (λ image. (left : List ℕ) → told.left left → kept left ≡ kept image)

-- whether some reply to a processor is out of memory, and whether one of a session is
abbrev pub lacks_one : List Answered → Bool
lacks_one answered = list_any (λ a. lacks_memory a.call a.reply) answered

abbrev pub lacks_any : List (List Answered) → Bool
lacks_any processors = list_any lacks_one processors

-- this is the report of a session that was run, of which each reply is of its call's kind, of parts that are values of their types; some reply
-- is out of memory, or none
abbrev pub Reports : Told → Bool → List ℕ → Type 0
Reports told lacking text =
    (processors : List (List Answered)) × WasRun told processors × All (All IsFitting) processors × (lacks_any processors ≡ lacking)
    × (text ≡ report_of processors)

-- a session was run, and nothing is said of what is printed
abbrev pub Runs : Told → Type 0
Runs told = (processors : List (List Answered)) × WasRun told processors

-- the input that is told is no script, and this line says why
abbrev pub RefusesScript : Option (List ℕ) → List ℕ → Type 0
RefusesScript left text = IfSome left (λ input. (fault : ScriptFault) × (script_of input ≡ Err fault) × (text ≡ script_line fault))

-- what is left of a source, where it is told, says the same of its script as what was read of it
abbrev pub SaysSame : Option (List ℕ) → List ℕ → Type 0
SaysSame left input = IfSome left (λ bytes. script_of bytes ≡ script_of input)

-- the input is told, and is a script or none
abbrev pub IsScript : Option (List ℕ) → Type 0
IsScript left = IsSomeAnd left (λ input. IsOk (script_of input))

abbrev pub IsNoScript : Option (List ℕ) → Type 0
IsNoScript left = IsSomeAnd left (λ input. IsErr (script_of input))

-- one text, one session: sessions of the calls of one script, with replies that fit their calls, that have the same report are the same (this
-- project's own)
abbrev pub OneTextOneSession : Type 0
OneTextOneSession =
    (input : List ℕ) (xs ys : List (List Answered)) → script_of input ≡ Ok (map calls_of xs) → script_of input ≡ Ok (map calls_of ys)
    → All (All IsFitting) xs → All (All IsFitting) ys → report_of xs ≡ report_of ys → xs ≡ ys

-- a reply that says neither that memory is wanting nor that the flash failed
abbrev pub IsCalmAnswer : Answered → Type 0
IsCalmAnswer a = (lacks_memory a.call a.reply ≡ false) × (is_device_error a.reply ≡ false)

-- where nothing failed and no memory was wanting, the calls of a legal session that were made processor by processor were stepped in that order
-- through the one-thread service: its history, its places and its replies are that service's (this project's own)
abbrev pub ProcessorsAreStepped : Type 0
ProcessorsAreStepped =
    (first : State) (processors : List (List Answered)) → first.made ≡ 0 → IsLegalSession first (history_from 0 processors) processors
    → AreInTurn 0 (all_answered processors) → All IsCalmAnswer (all_answered processors) → AreStepped first (all_answered processors)
