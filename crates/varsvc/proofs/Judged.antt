-- Where no call fails, what is accepted is done, and what is refused ends with its refusal.
use Rattle.std.proofs.Common.{◌≡◌, ◌≢◌, ◌⊎◌, ℕ, Bool, false, List, Option, Some, None, Result, Ok, Err, IsOk, IsErr, IfSome, map, inl, inr, ⊎_elim, refl, subst, sym, ◌∙◌, true≢false}
use Rattle.std.proofs.lemmas.Bool.{cases_eq}
use Rattle.ftw_mount.specs.Mount.{content_geometry}
use Rattle.policy_audit.specs.declared.policy_text_fault.PolicyTextFault.{PolicyTextFault}
use Rattle.policy_audit.specs.Text.{policies_of}
use Rattle.script_text.specs.Script.{script_of}
use Rattle.var_types.specs.declared.policy.Policy.{Policy}
use Rattle.var_types.specs.Kept.{IsSound}
use Rattle.var_types.specs.Session.{calls_of}
use Rattle.varsvc.specs.declared.image.inspection.Inspection.{Inspection}
use Rattle.varsvc.specs.declared.image.inspection.Inspection.TheVariants as inspection
use Rattle.varsvc.specs.declared.words.order.Order.{Order}
use Rattle.varsvc.specs.declared.words.order.Order.TheVariants as order
use Rattle.varsvc.specs.declared.words.usage.UsageFault.{UsageFault}
use Rattle.varsvc.specs.Images.{Inspects, inspected, IsImage, IsNoImage, RefusesList}
use Rattle.varsvc.specs.Outcome.{Counts, IsCalm, Prints, Row, audit_row, entries_row, format_row, inspection_row, play_row, row, run_row, text_row, usage_row}
use Rattle.varsvc.specs.PolicyTexts.{Audits, IsNoPolicyText, IsPolicyText, RefusesPolicies, Registers}
use Rattle.varsvc.specs.Plays.{IsNoPlayScript, IsPlayScript, Plays, RefusesPlay}
use Rattle.varsvc.specs.Runs.{IsNoScript, IsScript, RefusesScript, Reports}
use Rattle.varsvc.specs.Told.{Told}

-- a calm call ends with a text that is done or refused, or is out of memory
pub record IsJudged (r : Row) (status : ℕ) : Type 0 where
  pub text : List ℕ
  pub ended : ((status ≡ 0) × r.output text) ⊎ (((status ≡ 2) × r.usage text) ⊎ (((status ≡ 3) × r.script text) ⊎ (((status ≡ 4) × r.image text) ⊎ (status ≡ 8))))

module _ (r : Row) (counts : Counts) (status : ℕ) (old new : Option (List ℕ)) (printed : Prints r counts status old new) (calm : IsCalm r counts) where
  judged_whole : status ≢ 5 → IsJudged r status
  judged_whole other =
      let whole = printed.whole other in
      let text = whole.0 in
      let planned = whole.1 in
      let is = planned.is_text in
      record {
        text = text;
        ended = ⊎_elim (λ e. inl (e, is.done e))
            (⊎_elim (λ e. inr (inl (e, is.usage e)))
            (⊎_elim (λ e. inr (inr (inl (e, (is.script e).0))))
            (⊎_elim (λ e. inr (inr (inr (inl (e, (is.image e).0)))))
            (⊎_elim (λ e. absurd (calm.source (is.input e).0 (planned.source.rose e)))
            (⊎_elim (λ e. absurd (calm.flash (is.device e).0 (planned.flash.rose e)))
            (λ e. inr (inr (inr (inr e))))))))) is.known;
      }

  pub judged : IsJudged r status
  judged = ⊎_elim (λ five. absurd (calm.sink (printed.sink.rose five))) judged_whole (cases_eq status 5)

-- the verdict on what is given: what is accepted, and what is refused
abbrev IsVerdict : Row → ℕ → Type 0
IsVerdict r status =
    (r.accepted → (status ≡ 0) ⊎ (status ≡ 8)) × ((refusal : ℕ) → r.refused refusal → (status ≡ refusal) ⊎ (status ≡ 8))

-- nothing is accepted and refused
not_both : {A E : Type 0} (r : Result A E) → IsErr r → IsOk r → ⊥
not_both (Ok x) e o = true≢false (sym e)
not_both (Err x) e o = true≢false (sym o)

-- an input that is accepted is not refused
no_script : (input : Option (List ℕ)) (text : List ℕ) → IsScript input → RefusesScript input text → ⊥
no_script None text is refused = is
no_script (Some bytes) text is refused = true≢false (sym (subst (λ r. IsOk r) refused.1 is))

-- an image that is accepted is not refused
no_refusal : (image : Option (List ℕ)) (size : ℕ) (text : List ℕ) → IsImage image → RefusesList image size text → ⊥
no_refusal None size text is refused = is
no_refusal (Some bytes) size text is refused =
    ⊎_elim (λ fault. true≢false (sym (subst (λ r. IsOk r) fault.1.told is.0))) (λ foreign. is.1 foreign.0.told.1) refused

-- an input that is refused is not run
no_report : (told : Told) (lacking : Bool) (text : List ℕ) → IsNoScript told.input → Reports told lacking text → ⊥
no_report told lacking text is reports = from told.input is reports.1.script
  where
    from : (input : Option (List ℕ)) → IsNoScript input → IfSome input (λ i. script_of i ≡ Ok (map calls_of reports.0)) → ⊥
    from None is script = is
    from (Some bytes) is script = true≢false (sym (subst (λ r. IsErr r) script is))

-- nor is it accepted
unread : (input : Option (List ℕ)) → IsNoScript input → IfSome input (λ i. IsOk (script_of i)) → ⊥
unread None is accepted = is
unread (Some bytes) is accepted = not_both (script_of bytes) is accepted

-- an image that is refused is not run on
no_run : (told : Told) (lacking : Bool) (text : List ℕ) → IsNoImage told.image → Reports told lacking text → ⊥
no_run told lacking text is reports = from told.image is reports.1.accepted
  where
    from : (image : Option (List ℕ)) → IsNoImage image → IfSome image (λ bytes. IsOk (content_geometry bytes) × IsSound bytes) → ⊥
    from None is accepted = is
    from (Some bytes) is accepted =
        ⊎_elim (λ refused. not_both (content_geometry bytes) refused accepted.0) (λ foreign. accepted.1 foreign) is

-- an image that is refused is not listed or checked
no_listing : (what : Inspection) (image : Option (List ℕ)) (size : ℕ) (text : List ℕ) → IsNoImage image → Inspects what image size text → ⊥
no_listing what None size text is lists = is
no_listing what (Some bytes) size text is lists =
    ⊎_elim (λ refused. not_both (content_geometry bytes) refused lists.shown.0) (λ foreign. lists.shown.1 foreign) is

verdict_run : (told : Told) (status : ℕ) → IsJudged (run_row told) status → IsVerdict (run_row told) status
verdict_run told status j = (
  λ is. ⊎_elim (λ h. inl h.0)
      (⊎_elim (λ h. absurd h.1)
      (⊎_elim (λ h. absurd (no_script told.input j.text is.0 h.1))
      (⊎_elim (λ h. absurd (no_refusal told.image told.size j.text is.1 h.1.1)) inr))) j.ended,
  λ refusal. ⊎_elim
      (λ is. ⊎_elim (λ h. absurd (no_report told false j.text is.1 h.1))
      (⊎_elim (λ h. absurd h.1) (⊎_elim (λ h. inl (h.0 ∙ sym is.0)) (⊎_elim (λ h. absurd (unread told.input is.1 h.1.0)) inr))) j.ended)
      (λ is. ⊎_elim (λ h. absurd (no_run told false j.text is.2 h.1))
      (⊎_elim (λ h. absurd h.1)
      (⊎_elim (λ h. absurd (no_script told.input j.text is.1 h.1)) (⊎_elim (λ h. inl (h.0 ∙ sym is.0)) inr))) j.ended),
)

-- a script with a schedule that is accepted is not refused, and one that is refused is not played
no_play_refusal : (input : Option (List ℕ)) (text : List ℕ) → IsPlayScript input → RefusesPlay input text → ⊥
no_play_refusal None text is refused = is
no_play_refusal (Some bytes) text is refused = true≢false (sym (subst (λ r. IsOk r) refused.1 is))

no_play : (input : Option (List ℕ)) (text : List ℕ) → IsNoPlayScript input → Plays input text → ⊥
no_play None text is plays = is
no_play (Some bytes) text is plays = true≢false (sym (subst (λ r. IsErr r) plays.script is))

verdict_play : (input : Option (List ℕ)) (status : ℕ) → IsJudged (play_row input) status → IsVerdict (play_row input) status
verdict_play input status j = (
  λ is. ⊎_elim (λ h. inl h.0)
      (⊎_elim (λ h. absurd h.1) (⊎_elim (λ h. absurd (no_play_refusal input j.text is h.1)) (⊎_elim (λ h. absurd h.1) inr))) j.ended,
  λ refusal is.
      ⊎_elim (λ h. absurd (no_play input j.text is.1 h.1))
      (⊎_elim (λ h. absurd h.1) (⊎_elim (λ h. inl (h.0 ∙ sym is.0)) (⊎_elim (λ h. absurd h.1) inr))) j.ended,
)

verdict_inspection : (what : Inspection) (image : Option (List ℕ)) (size status : ℕ) → IsJudged (inspection_row what image size) status
    → IsVerdict (inspection_row what image size) status
verdict_inspection what image size status j = (
  λ is. ⊎_elim (λ h. inl h.0) (⊎_elim (λ h. absurd h.1) (⊎_elim (λ h. absurd h.1) (⊎_elim (λ h. absurd (no_refusal image size j.text is h.1)) inr))) j.ended,
  λ refusal is.
      ⊎_elim (λ h. absurd (no_listing what image size j.text is.1 h.1))
      (⊎_elim (λ h. absurd h.1) (⊎_elim (λ h. absurd h.1) (⊎_elim (λ h. inl (h.0 ∙ sym is.0)) inr))) j.ended,
)

verdict_format : (size status : ℕ) → IsJudged (format_row size) status → IsVerdict (format_row size) status
verdict_format size status j = (
  λ is. ⊎_elim (λ h. inl h.0) (⊎_elim (λ h. absurd h.1) (⊎_elim (λ h. absurd h.1) (⊎_elim (λ h. absurd (h.1.0 is)) inr))) j.ended,
  λ refusal is.
      ⊎_elim (λ h. absurd (is.1 h.1.0))
      (⊎_elim (λ h. absurd h.1) (⊎_elim (λ h. absurd h.1) (⊎_elim (λ h. inl (h.0 ∙ sym is.0)) inr))) j.ended,
)

verdict_text : (wanted : List ℕ) (status : ℕ) → IsJudged (text_row wanted) status → IsVerdict (text_row wanted) status
verdict_text wanted status j = (
  λ is. ⊎_elim (λ h. inl h.0) (⊎_elim (λ h. absurd h.1) (⊎_elim (λ h. absurd h.1) (⊎_elim (λ h. absurd h.1) inr))) j.ended,
  λ refusal is. absurd is,
)

-- a policy text that is accepted is not refused, and one that is refused is not printed or held against an image
no_policy_refusal : (input : Option (List ℕ)) (text : List ℕ) → IsPolicyText input → RefusesPolicies input text → ⊥
no_policy_refusal None text is refused = is
no_policy_refusal (Some bytes) text is refused = true≢false (sym (subst (λ r. IsOk r) refused.1 is))

no_entries : (input : Option (List ℕ)) (text : List ℕ) → IsNoPolicyText input → Registers input text → ⊥
no_entries None text is prints = is
no_entries (Some bytes) text is prints = true≢false (sym (subst (λ r. IsErr r) prints.1 is))

unread_policies : (input : Option (List ℕ)) → IsNoPolicyText input → IfSome input (λ bytes. IsOk (policies_of bytes)) → ⊥
unread_policies None is ok = is
unread_policies (Some bytes) is ok = both (policies_of bytes) is ok
  where
    both : (r : Result (List Policy) PolicyTextFault) → IsErr r → IsOk r → ⊥
    both (Ok p) is ok = cc
    both (Err e) is ok = cc

no_audit : (input : Option (List ℕ)) (image : Option (List ℕ)) (size : ℕ) (text : List ℕ) → IsNoPolicyText input → Audits input image size text → ⊥
no_audit None image size text is audits = is
no_audit (Some bytes) image size text is audits = true≢false (sym (subst (λ r. IsErr r) audits.read is))

no_image_audit : (input : Option (List ℕ)) (image : Option (List ℕ)) (size : ℕ) (text : List ℕ) → IsNoImage image → Audits input image size text → ⊥
no_image_audit input None size text is audits = is
no_image_audit input (Some bytes) size text is audits =
    no_listing inspection.Check (Some bytes) size (inspected inspection.Check bytes) is
    (record { length = audits.length; shown = (audits.shown.0, audits.shown.1, refl) })

verdict_entries : (input : Option (List ℕ)) (status : ℕ) → IsJudged (entries_row input) status → IsVerdict (entries_row input) status
verdict_entries input status j = (
  λ is. ⊎_elim (λ h. inl h.0)
      (⊎_elim (λ h. absurd h.1) (⊎_elim (λ h. absurd (no_policy_refusal input j.text is h.1)) (⊎_elim (λ h. absurd h.1) inr))) j.ended,
  λ refusal is.
      ⊎_elim (λ h. absurd (no_entries input j.text is.1 h.1))
      (⊎_elim (λ h. absurd h.1) (⊎_elim (λ h. inl (h.0 ∙ sym is.0)) (⊎_elim (λ h. absurd h.1) inr))) j.ended,
)

verdict_audit : (input image : Option (List ℕ)) (size status : ℕ) → IsJudged (audit_row input image size) status
    → IsVerdict (audit_row input image size) status
verdict_audit input image size status j = (
  λ is. ⊎_elim (λ h. inl h.0)
      (⊎_elim (λ h. absurd h.1)
      (⊎_elim (λ h. absurd (no_policy_refusal input j.text is.0 h.1)) (⊎_elim (λ h. absurd (no_refusal image size j.text is.1 h.1.1)) inr))) j.ended,
  λ refusal. ⊎_elim
      (λ is. ⊎_elim (λ h. absurd (no_audit input image size j.text is.1 h.1))
      (⊎_elim (λ h. absurd h.1) (⊎_elim (λ h. inl (h.0 ∙ sym is.0)) (⊎_elim (λ h. absurd (unread_policies input is.1 h.1.0)) inr))) j.ended)
      (λ is. ⊎_elim (λ h. absurd (no_image_audit input image size j.text is.2 h.1))
      (⊎_elim (λ h. absurd h.1)
      (⊎_elim (λ h. absurd (no_policy_refusal input j.text is.1 h.1)) (⊎_elim (λ h. inl (h.0 ∙ sym is.0)) inr))) j.ended),
)

verdict_usage : (fault : UsageFault) (status : ℕ) → IsJudged (usage_row fault) status → IsVerdict (usage_row fault) status
verdict_usage fault status j = (
  λ is. absurd is,
  λ refusal is.
      ⊎_elim (λ h. absurd h.1) (⊎_elim (λ h. inl (h.0 ∙ sym is)) (⊎_elim (λ h. absurd h.1) (⊎_elim (λ h. absurd h.1) inr))) j.ended,
)

-- where no call fails, what is accepted is done, and what is refused ends with its refusal
pub all_judged : (asked : Result Order UsageFault) (told : Told) (counts : Counts) (status : ℕ) (old new : Option (List ℕ))
    → Prints (row asked told) counts status old new → IsCalm (row asked told) counts → IsVerdict (row asked told) status
all_judged (Ok (order.Run name)) told counts status old new printed calm = verdict_run told status (judged _ counts status old new printed calm)
all_judged (Ok order.Play) told counts status old new printed calm = verdict_play told.input status (judged _ counts status old new printed calm)
all_judged (Ok (order.List name)) told counts status old new printed calm =
    verdict_inspection inspection.Listing told.image told.size status (judged _ counts status old new printed calm)
all_judged (Ok (order.Check name)) told counts status old new printed calm =
    verdict_inspection inspection.Check told.image told.size status (judged _ counts status old new printed calm)
all_judged (Ok (order.Format name)) told counts status old new printed calm = verdict_format told.size status (judged _ counts status old new printed calm)
all_judged (Ok (order.Make number)) told counts status old new printed calm = verdict_text _ status (judged _ counts status old new printed calm)
all_judged (Ok (order.Work number)) told counts status old new printed calm = verdict_text _ status (judged _ counts status old new printed calm)
all_judged (Ok order.Entries) told counts status old new printed calm = verdict_entries told.input status (judged _ counts status old new printed calm)
all_judged (Ok (order.Audit name)) told counts status old new printed calm =
    verdict_audit told.input told.image told.size status (judged _ counts status old new printed calm)
all_judged (Err fault) told counts status old new printed calm = verdict_usage fault status (judged _ counts status old new printed calm)
