use Rattle.std.proofs.Common.{List, ℕ, sym, subst, ◌∙◌, ap}
use Rattle.report_text.specs.declared.part.Part.{Part}
use Rattle.report_text.specs.Line.{parts_text}
use Rattle.report_text.proofs.Parts.{parts_text-cons}
use Rattle.report_text.proofs.part.write_parts.Goals as goal

pub returns-in-Some : goal.returns-in-Some
returns-in-Some g c =
    subst (λ (t : List ℕ). g.P.Put.Puts c.args.out.now c.write_later_parts.new.out t)
    (parts_text-cons c.in-Some.first.now c.in-Some.rest.now ∙ ap (λ (parts : List Part). parts_text parts) (sym c.in-Some.ensures.cases.0))
    (g.met.P.Put.joined _ _ _ _ _ c.write_part.ensures c.write_later_parts.ensures)
