-- From the plan of a run to the text of its status.
use Rattle.std.proofs.Common.{◌≡◌, ◌≢◌, ℕ, ◌+◌, ◌<◌, ◌≤◌, Bool, true, false, List, [], ◌∷◌, length, map, Option, Some, None, Result, Ok, Err, IfSome, IsOk, refl, sym, ap, ◌∙◌, subst, inr, ⊎_elim, arith, lit<, if◌then◌else◌, All, ◌||◌}
use Rattle.std.specs.List.{list_any}
use Rattle.std.proofs.lemmas.Bool.{cases_lt}
use Rattle.std.proofs.lemmas.List.Elements.{All-cons, All-head, All-nil, All-tail}
use Rattle.outside.specs.Faults.{HasRisen}
use Rattle.report_text.specs.Fitting.{IsFitting}
use Rattle.report_text.specs.Report.{session_text}
use Rattle.report_text.specs.Session.{history_from, report_of}
use Rattle.report_text.specs.Values.{AnswerHasValues, HaveValues}
use Rattle.script_text.specs.declared.script_fault.ScriptFault.{ScriptFault}
use Rattle.script_text.specs.Script.{script_of, most_script_bytes}
use Rattle.var_trace.specs.Answers.{AnsweredCalls}
use Rattle.var_trace.specs.Session.{SessionParts, answers_of}
use Rattle.var_trace.specs.StoresAfter.{history_in}
use Rattle.var_types.specs.declared.answered.Answered.{Answered}
use Rattle.var_types.specs.declared.call.Call.{Call}
use Rattle.var_types.proofs.ReplyKinds.{IsOfKind-reply}
use Rattle.var_types.specs.History.{Entry, after}
use Rattle.var_types.specs.Laws.{RightRepliesFit}
use Rattle.var_types.specs.Session.{AreAllRight, AreRight}
use Rattle.var_types.specs.State.{State}
use Rattle.var_types.specs.Step.{IsOfKind}
use Rattle.varsvc.specs.declared.output.plan.Plan.{Plan}
use Rattle.varsvc.specs.declared.output.plan.Plan.TheVariants.{Print, Stream, InputFault, DeviceFault, NoMemory}
use Rattle.varsvc.specs.declared.output.streamed.Streamed.TheVariants as streamed
use Rattle.varsvc.specs.Input.{IsInput, most_read}
use Rattle.varsvc.specs.Outcome.{FlashFails, IsText, run_row}
use Rattle.varsvc.specs.Plan.{HasPlanValues, IsStreamed, PlansLine, lacks_in, report_status, status_of, text_of}
use Rattle.varsvc.specs.FaultLines.{script_line}
use Rattle.varsvc.specs.RunPlan.{IsRunOf, PlansRun}
use Rattle.varsvc.specs.Runs.{LeavesUntouched, RefusesScript, Reports, Runs, SaysSame, WasRun, lacks_any, lacks_one}
use Rattle.varsvc.specs.Told.{Told}
use Rattle.varsvc.proofs.PlannedTexts.{text_device, text_done, text_image, text_lacking, text_memory, text_script}
use Rattle.varsvc.proofs.Plans.{line_text}
use Rattle.varsvc.proofs.Scripts.{script_of-long, script_of-take}

-- ---- replies that fit their calls

-- replies that are right at their places are of their calls' kinds
pub kinds : RightRepliesFit → (state : State) (history : List Entry) (processor index : ℕ) (xs : List Answered) → AreRight state history processor index xs
    → All (λ a. IsOfKind a.call a.reply) xs
kinds fit state history processor index [] right = All-nil (λ (a : Answered). IsOfKind a.call a.reply)
kinds fit state history processor index (x ∷ xs) right =
    All-cons (λ (a : Answered). IsOfKind a.call a.reply) x xs (fit state history x.place processor index x.call x.reply right.0)
    (kinds fit state history processor (index + 1) xs right.1)

-- replies of their calls' kinds that have values
pub all_fitting : (xs : List Answered) → All (λ a. IsOfKind a.call a.reply) xs → All AnswerHasValues xs → All IsFitting xs
all_fitting [] kinds values = All-nil IsFitting
all_fitting (x ∷ xs) kinds values =
    All-cons IsFitting x xs (All-head (λ (a : Answered). IsOfKind a.call a.reply) x xs kinds, All-head AnswerHasValues x xs values)
    (all_fitting xs (All-tail (λ (a : Answered). IsOfKind a.call a.reply) x xs kinds) (All-tail AnswerHasValues x xs values))

-- a reply that is right at its place is of its call's kind
pub right_fits : RightRepliesFit
right_fits state history place processor index call reply right = IsOfKind-reply (after state history place) call reply right.reply_is

-- so are those of several processors
all_kinds : RightRepliesFit → (state : State) (history : List Entry) (processor : ℕ) (processors : List (List Answered))
    → AreAllRight state history processor processors → HaveValues processors → All (All IsFitting) processors
all_kinds fit state history processor [] right values = All-nil (All IsFitting)
all_kinds fit state history processor (xs ∷ rest) right values =
    All-cons (All IsFitting) xs rest
    (all_fitting xs (kinds fit state history processor 0 xs right.0) (All-head (λ (answered : List Answered). All AnswerHasValues answered) xs rest values))
    (all_kinds fit state history (processor + 1) rest right.1 (All-tail (λ (answered : List Answered). All AnswerHasValues answered) xs rest values))

-- ---- the plan of a run

-- the report of a session by its answered calls
report_is : (session : SessionParts) (processors : List (List Answered)) → answers_of session ≡ processors
    → history_in session.entries.log ≡ history_from 0 processors
    → session_text (history_in session.entries.log) (answers_of session) ≡ report_of processors
report_is session processors answers history =
    ap (λ (h : List Entry). session_text h (answers_of session)) history ∙ ap (session_text (history_from 0 processors)) answers

-- some reply of a session is out of memory, or none
any_of : (processors : List AnsweredCalls)
    → list_any (λ (answers : AnsweredCalls). lacks_one answers.answered) processors ≡ lacks_any (map (λ (answers : AnsweredCalls). answers.answered) processors)
any_of [] = refl
any_of (answers ∷ rest) = ap (λ b. lacks_one answers.answered || b) (any_of rest)

module _ (fit : RightRepliesFit) (told : Told) (calls : List (List Call)) (script : IfSome told.input (λ input. script_of input ≡ Ok calls)) where
  module _ (session : SessionParts) (run : IsRunOf told calls session) where
    was_run : WasRun told run.processors
    was_run = record {
      first = run.first;
      opened = run.opened;
      accepted = run.accepted;
      script = subst (λ (cs : List (List Call)). IfSome told.input (λ input. script_of input ≡ Ok cs)) (sym run.calls_are) script;
      legal = run.legal;
      in_turn = run.in_turn;
      leaves = run.leaves;
    }

    reports_told : (lacking : Bool) → HaveValues (answers_of session) → lacks_any run.processors ≡ lacking
        → Reports told lacking (session_text (history_in session.entries.log) (answers_of session))
    reports_told lacking values lacks = (
      run.processors,
      was_run,
      all_kinds fit run.first (history_from 0 run.processors) 0 run.processors run.legal.right (subst HaveValues run.by.answers values),
      lacks,
      report_is session run.processors run.by.answers run.by.history,
    )

    session_is_text : HaveValues (answers_of session)
        → IsText (run_row told) (report_status session) (session_text (history_in session.entries.log) (answers_of session))
    session_is_text values =
        let same = any_of session.processors ∙ ap lacks_any run.by.answers in
        elim (lacks_in session)
        as (λ (b : Bool). lacks_in session ≡ b
        → IsText (run_row told) (if b then 8 else 0) (session_text (history_in session.entries.log) (answers_of session))) [
          | true ↦ λ is. text_lacking (run_row told) _ (inr (reports_told true values (sym same ∙ is)))
          | false ↦ λ is. text_done (run_row told) _ (reports_told false values (sym same ∙ is))
        ] refl

  -- a script is accepted
  accepted : (input : Option (List ℕ)) → IfSome input (λ i. script_of i ≡ Ok calls) → IfSome input (λ i. IsOk (script_of i))
  accepted None is = tt
  accepted (Some bytes) is = subst (λ r. IsOk r) (sym is) refl

  -- the plan for the calls of a script has the text of its status
  pub run_text : (plan : Plan) → PlansRun told calls plan → HasPlanValues plan → IsText (run_row told) (status_of plan) (text_of plan)
  run_text (Print s t) (is, refused, untouched) values = subst (λ (n : ℕ). IsText (run_row told) n t) (sym is) (text_image (run_row told) t (accepted told.input script, refused) untouched)
  run_text (Stream (streamed.Report session)) run values = session_is_text session run values
  run_text (Stream (streamed.Play session left)) planned values = absurd planned
  run_text (Stream (streamed.Listing content)) planned values = absurd planned
  run_text (Stream (streamed.Script number)) planned values = absurd planned
  run_text InputFault planned values = absurd planned
  run_text DeviceFault (left, rose) values = text_device (run_row told) refl left
  run_text NoMemory untouched values = text_memory (run_row told) untouched

  -- where it is streamed, a session was run
  pub run_unprinted : (plan : Plan) → PlansRun told calls plan → IsStreamed plan → Runs told
  run_unprinted (Print s t) planned (streamed, is) = cc
  run_unprinted (Stream (streamed.Report session)) run is = (run.processors, was_run session run)
  run_unprinted (Stream (streamed.Play session left)) planned is = absurd planned
  run_unprinted (Stream (streamed.Listing content)) planned is = absurd planned
  run_unprinted (Stream (streamed.Script number)) planned is = absurd planned
  run_unprinted InputFault planned is = absurd planned
  run_unprinted DeviceFault planned (streamed, is) = cc
  run_unprinted NoMemory planned (streamed, is) = cc

-- a session's status is 0 or 8
other_than : (n other : ℕ) (lacking : Bool) → n ≡ (if lacking then 8 else 0) → other ≢ 0 → other ≢ 8 → n ≢ other
other_than n other true e none memory = λ is. memory (sym is ∙ e)
other_than n other false e none memory = λ is. none (sym is ∙ e)

-- it is no failed read
pub run_status : (told : Told) (calls : List (List Call)) (plan : Plan) → PlansRun told calls plan → status_of plan ≢ 6
run_status told calls (Print s t) (is, refuses, untouched) = λ e. omega (arith, is, e)
run_status told calls (Stream (streamed.Report session)) planned =
    other_than (report_status session) 6 (lacks_in session) refl (λ e. omega (arith, e)) (λ e. omega (arith, e))
run_status told calls (Stream (streamed.Play session left)) planned = absurd planned
run_status told calls (Stream (streamed.Listing content)) planned = absurd planned
run_status told calls (Stream (streamed.Script number)) planned = absurd planned
run_status told calls InputFault planned = absurd planned
run_status told calls DeviceFault planned = λ e. omega (arith, e)
run_status told calls NoMemory planned = λ e. omega (arith, e)

-- and a failed call of the flash where the count of those rose
pub run_fails : (told : Told) (calls : List (List Call)) (plan : Plan) → PlansRun told calls plan
    → FlashFails (run_row told) (status_of plan) told.faults told.faults_after
run_fails told calls plan planned = record { rose = rose plan planned; stands = λ e. cc }
  where
    rose : (plan : Plan) → PlansRun told calls plan → status_of plan ≡ 7 → HasRisen told.faults told.faults_after
    rose (Print s t) (is, refuses, untouched) e = absurd (omega (arith, is, e))
    rose (Stream (streamed.Report session)) planned e =
        absurd (other_than (report_status session) 7 (lacks_in session) refl (λ e. omega (arith, e)) (λ e. omega (arith, e)) e)
    rose (Stream (streamed.Play session left)) planned e = absurd planned
    rose (Stream (streamed.Listing content)) planned e = absurd planned
    rose (Stream (streamed.Script number)) planned e = absurd planned
    rose InputFault planned e = absurd planned
    rose DeviceFault planned e = planned.1
    rose NoMemory planned e = absurd (omega (arith, e))

-- ---- what was read

-- what is read says the same of the script as all that was left
pub says_same : (left : Option (List ℕ)) (input : List ℕ) → IsInput left input → SaysSame left input
unfolding IsInput
says_same None input h = tt
says_same (Some bytes) input h = sym (ap script_of h ∙ script_of-take most_read bytes (lit< tt))

-- an answer about what was read is one about what was left
pub of_left : (left : Option (List ℕ)) (input : List ℕ) (answer : Result (List (List Call)) ScriptFault) → SaysSame left input → script_of input ≡ answer
    → IfSome left (λ bytes. script_of bytes ≡ answer)
of_left None input answer same is = tt
of_left (Some bytes) input answer same is = same ∙ is

-- the plan of the line for a refused script
pub refused_text : (told : Told) (fault : ScriptFault) (plan : Plan) → IfSome told.input (λ input. script_of input ≡ Err fault) → LeavesUntouched told
    → PlansLine 3 (script_line fault) plan → IsText (run_row told) (status_of plan) (text_of plan)
refused_text told fault plan is untouched plans =
    line_text (run_row told) 3 (script_line fault) plan
    (text_script (run_row told) (script_line fault) (from told.input is) untouched) plans untouched
  where
    from : (input : Option (List ℕ)) → IfSome input (λ input. script_of input ≡ Err fault) → RefusesScript input (script_line fault)
    from None is = tt
    from (Some bytes) is = (fault, is, refl)

-- an input that is a script is shorter than what is read at most
pub script_is_short : (input : List ℕ) (script : List (List Call)) → script_of input ≡ Ok script → length input < most_read
script_is_short input script h =
    ⊎_elim
    (λ (gt : most_script_bytes < length input). absurd (two_answers (sym (script_of-long input gt) ∙ h)))
    (λ (le : length input ≤ most_script_bytes). omega (arith, le))
    (cases_lt most_script_bytes (length input))
  where
    two_answers : {e : ScriptFault} {x : List (List Call)} → Err e ≡ Ok x → ⊥
    two_answers h = cc
