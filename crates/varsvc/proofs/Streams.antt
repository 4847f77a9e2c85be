-- What is printed while it is written, and what a plan comes to.
use Rattle.std.proofs.Common.{◌≡◌, ◌≢◌, ◌⊎◌, ℕ, Bool, true, false, List, [], ◌∷◌, ◌++◌, length, decimal, flat_map, Option, Some, None, refl, sym, ◌∙◌, subst, inl, inr, ⊎_elim, append_assoc, arith, if◌then◌else◌, Result, Ok, Err}
use Rattle.report_text.specs.Flow.{Flow, PutsThrough, empty}
use Rattle.report_text.specs.Line.{line_text}
use Rattle.report_text.specs.declared.word.Word.TheVariants as word
use Rattle.report_text.specs.Listing.{listing_text, variable_line}
use Rattle.report_text.specs.Word.{word_text}
use Rattle.report_text.proofs.Puts.{puts_part, puts_whole}
use Rattle.image_make.proofs.Scripts.{script_has_bytes}
use Rattle.var_trace.specs.Session.{SessionParts, answers_of}
use Rattle.var_trace.specs.StoresAfter.{history_in}
use Rattle.var_types.specs.declared.answered.Answered.{Answered}
use Rattle.var_types.specs.declared.key.Key.{Key}
use Rattle.var_types.specs.declared.variable.Variable.{Variable}
use Rattle.var_types.specs.History.{Entry}
use Rattle.var_types.specs.Texts.{spaced}
use Rattle.varsvc.specs.declared.words.order.Order.{Order}
use Rattle.varsvc.specs.declared.words.order.Order.TheVariants as order
use Rattle.varsvc.specs.declared.output.plan.Plan.{Plan}
use Rattle.varsvc.specs.declared.output.plan.Plan.TheVariants.{Print, Stream, InputFault, DeviceFault, NoMemory}
use Rattle.varsvc.specs.declared.output.streamed.Streamed.{Streamed}
use Rattle.varsvc.specs.declared.output.streamed.Streamed.TheVariants.{Listing, Play, Report, Script}
use Rattle.varsvc.specs.declared.words.usage.UsageFault.{UsageFault}
use Rattle.varsvc.specs.FaultLines.{memory_line}
use Rattle.varsvc.specs.Outcome.{Counts, FailsAt, FlashFails, IsPlanned, IsText, LeavesImage, Prints, ReadsInput, Row, row}
use Rattle.varsvc.specs.Plan.{ComesTo, Gains, HasPlanValues, IsOutcome, IsPrintable, IsStreamed, lacks_in, play_text, report_status, status_of, streamed_status, streamed_text, text_of}
use Rattle.report_text.specs.Report.{entry_line, history_lines, indexed, processor_lines, session_text}
use Rattle.varsvc.specs.Told.{Told}
use Rattle.varsvc.proofs.PlannedTexts.{text_short}

-- the status of what is streamed is 0 or 8
two_statuses : (lacking : Bool) (n : ℕ) → n ≡ (if lacking then 8 else 0) → (n ≡ 0) ⊎ (n ≡ 8)
two_statuses true n e = inr e
two_statuses false n e = inl e

streamed_statuses : (s : Streamed) → (streamed_status s ≡ 0) ⊎ (streamed_status s ≡ 8)
streamed_statuses (Report session) = two_statuses (lacks_in session) (report_status session) refl
streamed_statuses (Play session left) = inl refl
streamed_statuses (Listing content) = inl refl
streamed_statuses (Script number) = inl refl

other_than : (fault status : ℕ) → fault ≢ 0 → fault ≢ 8 → (status ≡ 0) ⊎ (status ≡ 8) → status ≢ fault
other_than fault status none memory (inl e) = λ is. none (sym is ∙ e)
other_than fault status none memory (inr e) = λ is. memory (sym is ∙ e)

comes_other : (s : Streamed) (status : ℕ) (text : List ℕ) → ComesTo s status text → status ≢ 5
comes_other s status text (inl (values, is, is_text)) =
    λ five. other_than 5 (streamed_status s) (λ e. omega (arith, e)) (λ e. omega (arith, e)) (streamed_statuses s) (sym is ∙ five)
comes_other s status text (inr (is, is_text)) = λ five. omega (arith, is, five)

-- what is streamed through an empty page was taken whole
module _ (s : Streamed) (status given : ℕ) (text : List ℕ) (old new : Flow) (is : given ≡ status) (comes : ComesTo s status text)
    (before : old.kept ≡ empty) (puts : PutsThrough old new text) where
  pub whole_sink : new.kept ≡ empty → FailsAt 5 given old.faults new.faults
  whole_sink after = record {
    rose = λ five. absurd (comes_other s status text comes (sym is ∙ five));
    stands = λ other. (puts_whole old new text before after puts).1;
  }

  pub whole_gains : new.kept ≡ empty → Gains (ComesTo s) given old.held new.held
  whole_gains after = record {
    whole = λ other. (text, subst (λ (n : ℕ). ComesTo s n text) (sym is) comes, (puts_whole old new text before after puts).0);
    part = λ five. absurd (comes_other s status text comes (sym is ∙ five));
  }

-- or a front of it
module _ (s : Streamed) (status : ℕ) (text : List ℕ) (old new : Flow) (comes : ComesTo s status text) (before : old.kept ≡ empty)
    (puts : PutsThrough old new text) (after : new.kept.broken ≡ true) where
  pub part_sink : FailsAt 5 5 old.faults new.faults
  part_sink = record { rose = λ five. (puts_part old new text before after puts).1; stands = λ other. absurd (other refl) }

  pub part_gains : Gains (ComesTo s) 5 old.held new.held
  part_gains = record {
    whole = λ other. absurd (other refl);
    part = λ five. (status, text, comes, (puts_part old new text before after puts).0);
  }

-- a sink gains what may come by a wider rule
pub gains_wider : (p q : ℕ → List ℕ → Type 0) (status : ℕ) (old new : Option (List ℕ)) → ((n : ℕ) (t : List ℕ) → p n t → q n t) → Gains p status old new
    → Gains q status old new
gains_wider p q status old new wider gains = record {
  whole = λ other. let w = gains.whole other in (w.0, wider status w.0 w.1, w.2);
  part = λ five. let w = gains.part five in (w.0, w.1, wider w.0 w.1 w.2, w.3);
}

-- what is streamed has bytes
ended_has_bytes : (front rest : List ℕ) → (front ++ 10 ∷ []) ++ rest ≢ []
ended_has_bytes [] rest e = cc
ended_has_bytes (x ∷ front) rest e = cc

line_has_bytes : (words : List (List ℕ)) (rest : List ℕ) → line_text words ++ rest ≢ []
line_has_bytes words rest e = ended_has_bytes (spaced words) rest e

report_has_bytes : (history : List Entry) (processors : List (List Answered)) → session_text history processors ≢ []
unfolding session_text history_lines
report_has_bytes history processors e =
    let changes = flat_map entry_line history in
    let rest = indexed processor_lines 0 processors ++ line_text (word_text word.End ∷ []) in
    let first = word_text word.History ∷ decimal (length history) ∷ [] in
    line_has_bytes first (changes ++ rest) (sym (append_assoc (line_text first) changes rest) ∙ e)

listing_has_bytes : (variables : List (Key × Variable)) → listing_text variables ≢ []
unfolding listing_text
listing_has_bytes variables e =
    line_has_bytes (word_text word.Variables ∷ decimal (length variables) ∷ [])
    (flat_map variable_line variables ++ line_text (word_text word.End ∷ [])) e

front_has_bytes : (front rest : List ℕ) → front ≢ [] → front ++ rest ≢ []
front_has_bytes [] rest some e = some refl
front_has_bytes (x ∷ front) rest some e = cc

play_has_bytes : (session : SessionParts) (left : Option (List ℕ)) → play_text session left ≢ []
play_has_bytes session None e = report_has_bytes (history_in session.entries.log) (answers_of session) e
play_has_bytes session (Some content) e =
    front_has_bytes (session_text (history_in session.entries.log) (answers_of session)) _ (report_has_bytes _ (answers_of session)) e

pub streamed_has_bytes : (s : Streamed) → streamed_text s ≢ []
streamed_has_bytes (Report session) e = report_has_bytes (history_in session.entries.log) (answers_of session) e
streamed_has_bytes (Play session left) e = play_has_bytes session left e
streamed_has_bytes (Listing content) e = listing_has_bytes _ e
streamed_has_bytes (Script number) e = script_has_bytes number e

-- a plan of words, script or image whose text is known is printable
pub printable : (r : Row) (plan : Plan) → (HasPlanValues plan → IsText r (status_of plan) (text_of plan)) → IsPrintable plan
printable r (Print status text) is = λ five.
    ⊎_elim (λ e. omega (arith, e, five))
    (⊎_elim (λ e. omega (arith, e, five))
    (⊎_elim (λ e. omega (arith, e, five))
    (⊎_elim (λ e. omega (arith, e, five))
    (⊎_elim (λ e. omega (arith, e, five))
    (⊎_elim (λ e. omega (arith, e, five)) (λ e. omega (arith, e, five))))))) (is tt).known
printable r (Stream s) is = tt
printable r InputFault is = tt
printable r DeviceFault is = tt
printable r NoMemory is = tt

-- an outcome of a plan has the status of the plan, or 8
same_status : (plan : Plan) (status : ℕ) (text : List ℕ) → IsOutcome plan status text → (status ≡ status_of plan) ⊎ (IsStreamed plan × (status ≡ 8))
same_status (Print s t) status text is = inl is.0
same_status (Stream s) status text (inl is) = inl is.1
same_status (Stream s) status text (inr is) = inr ((s, refl), is.0)
same_status InputFault status text is = inl is.0
same_status DeviceFault status text is = inl is.0
same_status NoMemory status text is = inl is.0

-- the same status where it is neither 5 nor 8
planned_status : (plan : Plan) (status : ℕ) (text : List ℕ) → status ≢ 8 → IsOutcome plan status text → status ≡ status_of plan
planned_status plan status text other is = ⊎_elim (λ e. e) (λ e. absurd (other e.1)) (same_status plan status text is)

-- a status comes as often as the plan's says, where what is streamed may also be 8
module _ (fault before after : ℕ) (none : fault ≢ 0) (memory : fault ≢ 8) where
  fails_streamed : (s : Streamed) (status : ℕ) (text : List ℕ) → ComesTo s status text → FailsAt fault (streamed_status s) before after
      → FailsAt fault status before after
  fails_streamed s status text (inl (values, is, is_text)) fails = subst (λ (n : ℕ). FailsAt fault n before after) (sym is) fails
  fails_streamed s status text (inr (is, is_text)) fails = record {
    rose = λ e. absurd (memory (sym e ∙ is));
    stands = λ e. fails.stands (other_than fault (streamed_status s) none memory (streamed_statuses s));
  }

  fails_planned : (plan : Plan) (status : ℕ) (text : List ℕ) → IsOutcome plan status text → FailsAt fault (status_of plan) before after
      → FailsAt fault status before after
  fails_planned (Print s t) status text is fails = subst (λ (n : ℕ). FailsAt fault n before after) (sym is.0) fails
  fails_planned (Stream s) status text is fails = fails_streamed s status text is fails
  fails_planned InputFault status text is fails = subst (λ (n : ℕ). FailsAt fault n before after) (sym is.0) fails
  fails_planned DeviceFault status text is fails = subst (λ (n : ℕ). FailsAt fault n before after) (sym is.0) fails
  fails_planned NoMemory status text is fails = subst (λ (n : ℕ). FailsAt fault n before after) (sym is.0) fails

-- an outcome has the text of its status
module _ (r : Row) where
  outcome_same : (s t : ℕ) (line text : List ℕ) → s ≡ t → line ≡ text → IsText r t text → IsText r s line
  outcome_same s t line text is is_text h = subst (λ (n : ℕ). IsText r n line) (sym is) (subst (λ (l : List ℕ). IsText r t l) (sym is_text) h)

  outcome_text : (plan : Plan) (status : ℕ) (text : List ℕ) → (HasPlanValues plan → IsText r (status_of plan) (text_of plan))
      → (IsStreamed plan → r.untouched ⊎ r.unprinted) → IsOutcome plan status text → IsText r status text
  outcome_text (Print s t) status text is short (same, same_text) = outcome_same status s text t same same_text (is tt)
  outcome_text (Stream s) status text is short (inl (values, same, same_text)) =
      outcome_same status (streamed_status s) text (streamed_text s) same same_text (is values)
  outcome_text (Stream s) status text is short (inr (same, same_text)) =
      outcome_same status 8 text memory_line same same_text (text_short r (short (s, refl)))
  outcome_text InputFault status text is short (same, same_text) = outcome_same status 6 text (text_of InputFault) same same_text (is tt)
  outcome_text DeviceFault status text is short (same, same_text) = outcome_same status 7 text (text_of DeviceFault) same same_text (is tt)
  outcome_text NoMemory status text is short (same, same_text) = outcome_same status 8 text memory_line same same_text (is tt)

-- a failed call of the flash is told as the plan says
module _ (r : Row) (before after : ℕ) where
  flash_streamed : (s : Streamed) (status : ℕ) (text : List ℕ) → ComesTo s status text → FlashFails r (streamed_status s) before after
      → FlashFails r status before after
  flash_streamed s status text (inl (values, is, is_text)) fails = subst (λ (n : ℕ). FlashFails r n before after) (sym is) fails
  flash_streamed s status text (inr (is, is_text)) fails = record {
    rose = λ e. absurd (omega (arith, e, is));
    stands = λ silent e. fails.stands silent (other_than 7 (streamed_status s) (λ e. omega (arith, e)) (λ e. omega (arith, e)) (streamed_statuses s));
  }

  flash_planned : (plan : Plan) (status : ℕ) (text : List ℕ) → IsOutcome plan status text → FlashFails r (status_of plan) before after
      → FlashFails r status before after
  flash_planned (Print s t) status text is fails = subst (λ (n : ℕ). FlashFails r n before after) (sym is.0) fails
  flash_planned (Stream s) status text is fails = flash_streamed s status text is fails
  flash_planned InputFault status text is fails = subst (λ (n : ℕ). FlashFails r n before after) (sym is.0) fails
  flash_planned DeviceFault status text is fails = subst (λ (n : ℕ). FlashFails r n before after) (sym is.0) fails
  flash_planned NoMemory status text is fails = subst (λ (n : ℕ). FlashFails r n before after) (sym is.0) fails

module _ (r : Row) (counts : Counts) (plan : Plan) (status : ℕ) (old new : Option (List ℕ)) (gains : Gains (IsOutcome plan) status old new)
    (is : HasPlanValues plan → IsText r (status_of plan) (text_of plan)) (short : IsStreamed plan → r.untouched ⊎ r.unprinted)
    (source : FailsAt 6 (status_of plan) counts.source_before counts.source_after)
    (flash : FlashFails r (status_of plan) counts.flash_before counts.flash_after) where
  planned_outcome : (n : ℕ) (text : List ℕ) → IsOutcome plan n text → IsPlanned r counts n text
  planned_outcome n text outcome = record {
    is_text = outcome_text r plan n text is short outcome;
    source = fails_planned 6 counts.source_before counts.source_after (λ e. omega (arith, e)) (λ e. omega (arith, e)) plan n text outcome source;
    flash = flash_planned r counts.flash_before counts.flash_after plan n text outcome flash;
  }

  -- what a plan comes to is printed
  pub prints : FailsAt 5 status counts.sink_before counts.sink_after → Prints r counts status old new
  prints sink = record {
    sink = sink;
    whole = λ other. let w = gains.whole other in (w.0, planned_outcome status w.0 w.1, w.2);
    part = λ five. let w = gains.part five in (w.0, w.1, planned_outcome w.0 w.1 w.2, w.3);
  }

  -- a status that neither a failed sink nor want of memory has is the plan's
  pub is_planned : status ≢ 5 → status ≢ 8 → status_of plan ≡ status
  is_planned other memory = let w = gains.whole other in sym (planned_status plan status w.0 memory w.1)

  -- what is read, and what becomes of the image, by the status that it ends with
  pub reads_so : (left left_after : Option (List ℕ)) → ReadsInput r (status_of plan) left left_after → ReadsInput r status left left_after
  reads_so left left_after reads = record {
    most = reads.most;
    whole = λ all done. reads.whole all (is_planned (λ e. omega (arith, e, done)) (λ e. omega (arith, e, done)) ∙ done);
  }

  pub leaves_so : (size : ℕ) (holds holds_after : Option (List ℕ)) → LeavesImage r (status_of plan) size holds holds_after
      → (IsStreamed plan → holds_after ≡ holds) → LeavesImage r status size holds holds_after
  leaves_so size holds holds_after leaves streamed = record {
    done = λ e. leaves.done (is_planned (λ five. omega (arith, e, five)) (λ eight. omega (arith, e, eight)) ∙ e);
    device = λ e. leaves.device (is_planned (λ five. omega (arith, e, five)) (λ eight. omega (arith, e, eight)) ∙ e);
    refused = λ e. leaves.refused (is_planned (λ five. omega (arith, e, five)) (λ eight. omega (arith, e, eight)) ∙ e);
    other_size = leaves.other_size;
    memory = λ e.
        let w = gains.whole (λ five. omega (arith, e, five)) in
        ⊎_elim (λ same. leaves.memory (sym same ∙ e)) (λ s. streamed s.0) (same_status plan status w.0 w.1);
  }

-- what prints nothing where all is done has no text then
pub silent : (asked : Result Order UsageFault) (told : Told) (text : List ℕ) → (row asked told).prints ≡ false → (row asked told).output text → text ≡ []
silent (Ok (order.Run name)) told text none out = cc
silent (Ok order.Play) told text none out = cc
silent (Ok (order.List name)) told text none out = cc
silent (Ok (order.Check name)) told text none out = cc
silent (Ok (order.Format name)) told text none out = out.1
silent (Ok (order.Make number)) told text none out = cc
silent (Ok (order.Work number)) told text none out = cc
silent (Ok order.Entries) told text none out = cc
silent (Ok (order.Audit name)) told text none out = cc
silent (Err fault) told text none out = cc

outcome_silent : (plan : Plan) (text : List ℕ) → IsOutcome plan 0 text → text ≡ [] → text_of plan ≡ []
outcome_silent (Print s t) text is none = sym is.1 ∙ none
outcome_silent (Stream s) text (inl is) none = sym is.2 ∙ none
outcome_silent (Stream s) text (inr is) none = absurd (omega (arith, is.0))
outcome_silent InputFault text is none = absurd (omega (arith, is.0))
outcome_silent DeviceFault text is none = absurd (omega (arith, is.0))
outcome_silent NoMemory text is none = absurd (omega (arith, is.0))

-- nor has the plan
module _ (asked : Result Order UsageFault) (told : Told) (plan : Plan) (status : ℕ) (old new : Option (List ℕ))
    (gains : Gains (IsOutcome plan) status old new) (is : HasPlanValues plan → IsText (row asked told) (status_of plan) (text_of plan))
    (short : IsStreamed plan → (row asked told).untouched ⊎ (row asked told).unprinted) where
  pub silent_plan : (row asked told).prints ≡ false → status ≡ 0 → text_of plan ≡ []
  silent_plan none done =
      let w = gains.whole (λ five. omega (arith, done, five)) in
      let outcome : IsOutcome plan 0 w.0 = subst (λ (n : ℕ). IsOutcome plan n w.0) done w.1 in
      outcome_silent plan w.0 outcome (silent asked told w.0 none ((outcome_text (row asked told) plan 0 w.0 is short outcome).done refl))
