-- What playing a script with a schedule prints.
use Rattle.std.specs.Prelude.{◌≡◌, ◌⊎◌, ℕ, false, List, Option, Ok, Err, IfSome, IsErr, IsOk, IsSomeAnd, All}
use Rattle.play_steps.specs.Play.{IsPlayed}
use Rattle.report_text.specs.Fitting.{IsFitting}
use Rattle.script_text.specs.declared.play_fault.PlayFault.{PlayFault}
use Rattle.script_text.specs.Schedule.{PlayParts, play_of}
use Rattle.var_trace.specs.Session.{SessionParts, answers_of}
use Rattle.varsvc.specs.declared.output.plan.Plan.{Plan}
use Rattle.varsvc.specs.declared.output.plan.Plan.TheVariants.{NoMemory, Stream}
use Rattle.varsvc.specs.declared.output.streamed.Streamed.TheVariants.{Play}
use Rattle.varsvc.specs.FaultLines.{play_line}
use Rattle.varsvc.specs.Plan.{lacks_in, play_text}

-- this is printed of a script with a schedule that was played on a blank image: the report of its session, with the listing of what a loss of power
-- left, if it was lost. No reply says that memory was short, and each is of its call's kind, of parts that are values of their types (this project's
-- own)
pub record Plays (input : Option (List ℕ)) (text : List ℕ) : Type 0 where
  pub parts : PlayParts
  pub script : IfSome input (λ bytes. play_of bytes ≡ Ok parts)
  pub session : SessionParts
  pub left : Option (List ℕ)
  pub played : IsPlayed parts session left
  pub fitting : All (All IsFitting) (answers_of session)
  pub able : lacks_in session ≡ false
  pub printed : text ≡ play_text session left

-- the input that is told is no script with a schedule, and this line says why
abbrev pub RefusesPlay : Option (List ℕ) → List ℕ → Type 0
RefusesPlay input text = IfSome input (λ bytes. (fault : PlayFault) × (play_of bytes ≡ Err fault) × (text ≡ play_line fault))

-- the input is told, and is a script with a schedule or none
abbrev pub IsPlayScript : Option (List ℕ) → Type 0
IsPlayScript input = IsSomeAnd input (λ bytes. IsOk (play_of bytes))

abbrev pub IsNoPlayScript : Option (List ℕ) → Type 0
IsNoPlayScript input = IsSomeAnd input (λ bytes. IsErr (play_of bytes))

-- what is left of a source, where it is told, says the same of its script and schedule as what was read of it
abbrev pub PlaysSame : Option (List ℕ) → List ℕ → Type 0
PlaysSame input read = IfSome input (λ bytes. play_of bytes ≡ play_of read)

-- the plan for a session that was played, and for what a loss of power left: both are streamed, where no reply says that memory was short
abbrev pub PlansPlay : SessionParts → Option (List ℕ) → Plan → Type 0
PlansPlay session left plan = ((plan ≡ Stream (Play session left)) × (lacks_in session ≡ false)) ⊎ (plan ≡ NoMemory)
