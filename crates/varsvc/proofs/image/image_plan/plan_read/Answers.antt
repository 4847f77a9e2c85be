use Rattle.std.proofs.Common.{◌≡◌, ◌∙◌, ℕ, IfSome, List, length, rules, sym, subst}
use Rattle.std.proofs.lemmas.List.{take_at}
use Rattle.varsvc.specs.Images.{IsRead}
use Rattle.varsvc.specs.Outcome.{IsText, inspection_row}
use Rattle.varsvc.specs.Plan.{status_of, text_of}
use Rattle.varsvc.proofs.Volumes.{is_read}
use Rattle.varsvc.proofs.image.image_plan.plan_read.Goals as goal

pub returns-in-Ok-clause-text : goal.returns-in-Ok-clause-text
returns-in-Ok-clause-text g c =
    let told = g.F.Flash.holds c.args.flash.now in
    let plan = c.plan_content.result in
    let whole = subst (λ (n : ℕ). IfSome told (λ (cells : List ℕ). length cells ≡ n)) c.requires.size (g.met.F.Flash.sized c.args.flash.now) in
    subst (λ (n : ℕ). IsText (inspection_row c.args.what told n) (status_of plan) (text_of plan)) (sym c.requires.size)
    (c.plan_content.ensures.text told
    (subst (λ (bytes : List ℕ). IfSome told (IsRead c.in-Ok.kept bytes)) (sym (c.new.ensures ∙ take_at c.read_kept.new.into _ c.args.content.len (search rules)))
    (is_read c.in-Ok.kept c.read_kept.new.into told whole c.in-Ok.ensures.describes c.in-Ok.ensures.content)))
