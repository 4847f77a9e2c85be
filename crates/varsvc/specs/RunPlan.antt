-- The plan for a script that is run on an image.
use Rattle.std.specs.Prelude.{◌≡◌, List, length, map, sum_by, IfSome, IsOk}
use Rattle.ftw_mount.specs.Mount.{content_geometry}
use Rattle.outside.specs.Faults.{HasRisen}
use Rattle.report_text.specs.Session.{history_from}
use Rattle.var_trace.specs.Session.{SessionParts, answers_of}
use Rattle.var_trace.specs.StoresAfter.{history_in}
use Rattle.var_types.specs.declared.answered.Answered.{Answered}
use Rattle.var_types.specs.declared.call.Call.{Call}
use Rattle.var_types.specs.Kept.{IsSound}
use Rattle.var_types.specs.Session.{IsLegalSession, calls_of}
use Rattle.var_types.specs.State.{State}
use Rattle.varsvc.specs.declared.output.plan.Plan.{Plan}
use Rattle.varsvc.specs.declared.output.plan.Plan.TheVariants.{Print, Stream, InputFault, DeviceFault, NoMemory}
use Rattle.varsvc.specs.declared.output.streamed.Streamed.{Streamed}
use Rattle.varsvc.specs.declared.output.streamed.Streamed.TheVariants as streamed
use Rattle.varsvc.specs.Images.{RefusesList}
use Rattle.varsvc.specs.Runs.{AreInTurn, LeavesRun, LeavesUntouched, LeavesVariables, all_answered, start_on}
use Rattle.varsvc.specs.Told.{Told}

-- a session by the answered calls of its processors, which make its history
pub record IsSessionBy (session : SessionParts) (processors : List (List Answered)) : Type 0 where
  pub answers : answers_of session ≡ processors
  pub history : history_in session.entries.log ≡ history_from 0 processors

-- the session of the calls of each processor on the image, and what the run leaves of it
pub record IsRunOf (told : Told) (script : List (List Call)) (session : SessionParts) : Type 0 where
  pub processors : List (List Answered)
  pub by : IsSessionBy session processors
  pub calls_are : map calls_of processors ≡ script
  pub first : State
  pub opened : IfSome told.image (λ image. first ≡ start_on image (sum_by length processors))
  pub accepted : IfSome told.image (λ image. IsOk (content_geometry image) × IsSound image)
  pub legal : IsLegalSession first (history_from 0 processors) processors
  pub in_turn : AreInTurn 0 (all_answered processors)
  pub leaves : LeavesRun told first processors

-- the report of the session of a script's calls is streamed
abbrev pub StreamsRun : Told → List (List Call) → Streamed → Type 0
StreamsRun told script (streamed.Report session) = IsRunOf told script session
StreamsRun told script (streamed.Play session left) = ⊥
StreamsRun told script (streamed.Listing content) = ⊥
StreamsRun told script (streamed.Script number) = ⊥

-- the plan streams it; or the image is refused; or a call of the flash failed, or memory is wanting, before there is a session
abbrev pub PlansRun : Told → List (List Call) → Plan → Type 0
PlansRun told script (Print status text) = (status ≡ 4) × RefusesList told.image told.size text × LeavesUntouched told
PlansRun told script (Stream streamed) = StreamsRun told script streamed
PlansRun told script InputFault = ⊥
PlansRun told script DeviceFault = LeavesVariables told × HasRisen told.faults told.faults_after
PlansRun told script NoMemory = LeavesUntouched told
