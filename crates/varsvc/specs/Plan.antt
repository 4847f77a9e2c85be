-- What a call of the program is to print.
use Rattle.std.specs.Prelude.{◌≡◌, ◌≢◌, ◌⊎◌, ℕ, Bool, true, false, List, [], ◌∷◌, ◌++◌, Option, Some, None, if◌then◌else◌}
use Rattle.std.specs.List.{list_any}
use Rattle.std.specs.Io.KnownBytes.{Appends}
use Rattle.flash_dev.specs.declared.image_fault.ImageFault.{ImageFault}
use Rattle.flash_dev.specs.declared.image_fault.ImageFault.TheVariants as image
use Rattle.image_make.specs.Generated.{generated_script}
use Rattle.outside.specs.Written.{AppendsPart}
use Rattle.ftw_mount.specs.declared.kept.Kept.{Kept}
use Rattle.policy_audit.specs.Audit.{audit_text}
use Rattle.report_text.specs.Check.{check_text, facts_of}
use Rattle.report_text.specs.Listing.{listing_text}
use Rattle.report_text.specs.declared.word.Word.TheVariants as word
use Rattle.report_text.specs.Line.{line_text}
use Rattle.report_text.specs.Report.{session_text}
use Rattle.report_text.specs.Values.{HaveValues}
use Rattle.report_text.specs.Word.{word_text}
use Rattle.var_trace.specs.Answers.{AnsweredCalls}
use Rattle.var_trace.specs.Session.{SessionParts, answers_of}
use Rattle.var_trace.specs.StoresAfter.{history_in}
use Rattle.var_types.specs.Layout.{headers_size}
use Rattle.var_types.specs.Put.{Text}
use Rattle.var_types.specs.Record.{Authenticated}
use Rattle.var_types.specs.Region.{Region, region_map}
use Rattle.varsvc.specs.declared.image.inspection.Inspection.{Inspection}
use Rattle.varsvc.specs.declared.image.inspection.Inspection.TheVariants as inspection
use Rattle.varsvc.specs.declared.output.plan.Plan.{Plan}
use Rattle.varsvc.specs.declared.output.plan.Plan.TheVariants.{Print, Stream, InputFault, DeviceFault, NoMemory}
use Rattle.varsvc.specs.declared.output.streamed.Streamed.{Streamed}
use Rattle.varsvc.specs.declared.output.streamed.Streamed.TheVariants as streamed
use Rattle.varsvc.specs.FaultLines.{device_line, image_line, input_line, memory_line}
use Rattle.varsvc.specs.Runs.{lacks_one}

-- the region that a content is, and its listing
abbrev pub volume_region : List ℕ → Region
volume_region volume = record { form = Authenticated; bytes = volume; first = headers_size; non_volatile = true }

abbrev pub volume_listing : List ℕ → List ℕ
volume_listing volume = listing_text (region_map (volume_region volume))

-- what is printed of a content, by what was read of work area and spare
abbrev pub content_text : Inspection → Kept → List ℕ → List ℕ
content_text inspection.Listing kept content = volume_listing content
content_text (inspection.Audit policies) kept content = audit_text policies.now (region_map (volume_region content))
content_text inspection.Check kept content = check_text (facts_of (volume_region content) kept.state kept.blank)

-- whether some reply of a session is out of memory, and the status of its report
abbrev pub lacks_in : SessionParts → Bool
lacks_in session = list_any (λ (answers : AnsweredCalls). lacks_one answers.answered) session.processors

abbrev pub report_status : SessionParts → ℕ
report_status session = if lacks_in session then 8 else 0

-- the report of a session that was played, and behind it what a loss of power left, if it was lost: a line that says so, and its listing (this
-- project's own)
abbrev pub play_text : SessionParts → Option (List ℕ) → List ℕ
play_text session None = session_text (history_in session.entries.log) (answers_of session)
play_text session (Some content) =
    session_text (history_in session.entries.log) (answers_of session) ++ (line_text (word_text word.Power ∷ []) ++ volume_listing content)

-- what is printed while it is written: its status, its text, and that its parts are values of their types
abbrev pub streamed_status : Streamed → ℕ
streamed_status (streamed.Report session) = report_status session
streamed_status (streamed.Play session left) = 0
streamed_status (streamed.Listing content) = 0
streamed_status (streamed.Script number) = 0

abbrev pub streamed_text : Streamed → List ℕ
streamed_text (streamed.Report session) = session_text (history_in session.entries.log) (answers_of session)
streamed_text (streamed.Play session left) = play_text session left
streamed_text (streamed.Listing content) = volume_listing content
streamed_text (streamed.Script number) = generated_script number

abbrev pub HasStreamedValues : Streamed → Type 0
HasStreamedValues (streamed.Report session) = HaveValues (answers_of session)
HasStreamedValues (streamed.Play session left) = HaveValues (answers_of session)
HasStreamedValues (streamed.Listing content) = Unit {0}
HasStreamedValues (streamed.Script number) = Unit {0}

-- the status of a plan, the text that it prints, and that its parts are values of their types
abbrev pub status_of : Plan → ℕ
status_of (Print status text) = status
status_of (Stream streamed) = streamed_status streamed
status_of InputFault = 6
status_of DeviceFault = 7
status_of NoMemory = 8

abbrev pub text_of : Plan → List ℕ
text_of (Print status text) = text
text_of (Stream streamed) = streamed_text streamed
text_of InputFault = input_line
text_of DeviceFault = device_line
text_of NoMemory = memory_line

abbrev pub HasPlanValues : Plan → Type 0
HasPlanValues (Print status text) = Unit {0}
HasPlanValues (Stream streamed) = HasStreamedValues streamed
HasPlanValues InputFault = Unit {0}
HasPlanValues DeviceFault = Unit {0}
HasPlanValues NoMemory = Unit {0}

-- the status of a plan to print a text is none of a sink that failed
abbrev pub IsPrintable : Plan → Type 0
IsPrintable (Print status text) = status ≢ 5
IsPrintable (Stream streamed) = Unit {0}
IsPrintable InputFault = Unit {0}
IsPrintable DeviceFault = Unit {0}
IsPrintable NoMemory = Unit {0}

-- a plan prints while it writes
abbrev pub IsStreamed : Plan → Type 0
IsStreamed plan = (streamed : Streamed) × (plan ≡ Stream streamed)

-- what is printed while it is written comes to its status and text; or memory was short before its first byte, and that line is printed
abbrev pub ComesTo : Streamed → ℕ → List ℕ → Type 0
ComesTo streamed status text =
    (HasStreamedValues streamed × (status ≡ streamed_status streamed) × (text ≡ streamed_text streamed)) ⊎ ((status ≡ 8) × (text ≡ memory_line))

-- what a plan comes to
abbrev pub IsOutcome : Plan → ℕ → List ℕ → Type 0
IsOutcome (Print s t) status text = (status ≡ s) × (text ≡ t)
IsOutcome (Stream streamed) status text = ComesTo streamed status text
IsOutcome InputFault status text = (status ≡ 6) × (text ≡ input_line)
IsOutcome DeviceFault status text = (status ≡ 7) × (text ≡ device_line)
IsOutcome NoMemory status text = (status ≡ 8) × (text ≡ memory_line)

-- a sink has gained the text that comes with a status, by what texts may come with which, and a front of one of them where it failed
pub record Gains (comes : ℕ → List ℕ → Type 0) (status : ℕ) (old new : Option (List ℕ)) : Type 0 where
  pub whole : status ≢ 5 → (text : List ℕ) × comes status text × Appends old new text
  pub part : status ≡ 5 → (planned : ℕ) × (text : List ℕ) × comes planned text × AppendsPart old new text

-- the plan prints this line with this status, or is out of memory
abbrev pub PlansLine : ℕ → List ℕ → Plan → Type 0
PlansLine status line (Print s text) = (s ≡ status) × (text ≡ line)
PlansLine status line (Stream streamed) = ⊥
PlansLine status line InputFault = ⊥
PlansLine status line DeviceFault = ⊥
PlansLine status line NoMemory = Unit {0}

-- the plan prints what stands in a text in memory with this status, or memory was too short for that text
abbrev pub PlansText : ℕ → Text → Plan → Type 0
PlansText status held (Print s text) = (s ≡ status) × (held.lacks ≡ false) × (text ≡ held.bytes)
PlansText status held (Stream streamed) = ⊥
PlansText status held InputFault = ⊥
PlansText status held DeviceFault = ⊥
PlansText status held NoMemory = Unit {0}

-- the plan for a fault of an image
abbrev pub PlansFault : ImageFault → Plan → Type 0
PlansFault (image.ImageSize have want) plan = PlansLine 4 (image_line (image.ImageSize have want)) plan
PlansFault (image.NotAVolume at) plan = PlansLine 4 (image_line (image.NotAVolume at)) plan
PlansFault (image.BlockSize value) plan = PlansLine 4 (image_line (image.BlockSize value)) plan
PlansFault (image.BadSum sum) plan = PlansLine 4 (image_line (image.BadSum sum)) plan
PlansFault (image.NotAStore at) plan = PlansLine 4 (image_line (image.NotAStore at)) plan
PlansFault image.Device plan = plan ≡ DeviceFault
