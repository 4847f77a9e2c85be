use Rattle.std.proofs.Common.{arith, subst, sym}
use Rattle.varsvc.specs.declared.image.inspection.Inspection.{Inspection}
use Rattle.varsvc.specs.declared.image.inspection.Inspection.TheVariants.{Audit, Check, Listing}
use Rattle.varsvc.specs.FaultLines.{foreign_line}
use Rattle.varsvc.specs.Outcome.{IsText, inspection_row}
use Rattle.varsvc.specs.Plan.{content_text, status_of, text_of}
use Rattle.varsvc.proofs.Plans.{line_text, other_status}
use Rattle.varsvc.proofs.Volumes.{foreign_text, shown_text}
use Rattle.varsvc.proofs.image.image_plan.plan_kept.Goals as goal

pub returns-then-is_foreign-clause-text : goal.returns-then-is_foreign-clause-text
returns-then-is_foreign-clause-text c = λ told read.
    foreign_text c.args.what c.args.kept c.args.content told c.plan_foreign.result c.requires.accepted (c.is_foreign.ensures.foreign c.if-is_foreign.true) read
    c.plan_foreign.ensures

pub returns-then-is_foreign-clause-device : goal.returns-then-is_foreign-clause-device
returns-then-is_foreign-clause-device c =
    other_status 7 4 foreign_line c.plan_foreign.result (λ e. omega (arith, e)) (λ e. omega (arith, e)) c.plan_foreign.ensures

pub returns-in-Listing-clause-text : goal.returns-in-Listing-clause-text
returns-in-Listing-clause-text c = λ told read.
    subst (λ (w : Inspection). IsText (inspection_row w told 131072) 0 (content_text Listing c.args.kept c.args.content)) (sym c.in-Listing.is)
    (shown_text Listing c.args.kept c.args.content told c.requires.accepted (c.is_foreign.ensures.sound c.if-is_foreign.false) read)

pub returns-in-Check-clause-text : goal.returns-in-Check-clause-text
returns-in-Check-clause-text c = λ told read.
    let plan = c.plan_checked.result in
    subst (λ (w : Inspection). IsText (inspection_row w told 131072) (status_of plan) (text_of plan)) (sym c.in-Check.is)
    (line_text (inspection_row Check told 131072) 0 (content_text Check c.args.kept c.args.content) plan
    (shown_text Check c.args.kept c.args.content told c.requires.accepted (c.is_foreign.ensures.sound c.if-is_foreign.false) read)
    c.plan_checked.ensures tt)

pub returns-in-Check-clause-device : goal.returns-in-Check-clause-device
returns-in-Check-clause-device c =
    other_status 7 0 (content_text Check c.args.kept c.args.content) c.plan_checked.result (λ e. omega (arith, e)) (λ e. omega (arith, e)) c.plan_checked.ensures

pub returns-in-Audit-clause-text : goal.returns-in-Audit-clause-text
returns-in-Audit-clause-text c = λ told read.
    let plan = c.plan_audited.result in
    let what : Inspection = Audit c.in-Audit.policies in
    subst (λ (w : Inspection). IsText (inspection_row w told 131072) (status_of plan) (text_of plan)) (sym c.in-Audit.is)
    (line_text (inspection_row what told 131072) 0 (content_text what c.args.kept c.args.content) plan
    (shown_text what c.args.kept c.args.content told c.requires.accepted (c.is_foreign.ensures.sound c.if-is_foreign.false) read)
    c.plan_audited.ensures tt)

pub returns-in-Audit-clause-device : goal.returns-in-Audit-clause-device
returns-in-Audit-clause-device c =
    other_status 7 0 (content_text (Audit c.in-Audit.policies) c.args.kept c.args.content) c.plan_audited.result (λ e. omega (arith, e)) (λ e. omega (arith, e)) c.plan_audited.ensures
