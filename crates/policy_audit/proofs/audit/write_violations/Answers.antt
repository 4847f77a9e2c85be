use Rattle.std.proofs.Common.{ℕ, [], ◌∷◌, codes, subst, sym}
use Rattle.std.specs.Fmt.{decimal}
use Rattle.std.proofs.lemmas.List.{length-map}
use Rattle.report_text.specs.Line.{line_text}
use Rattle.policy_audit.specs.Audit.{breaks_text, seen_break}
use Rattle.policy_audit.proofs.audit.write_violations.Goals as goal

pub returns : goal.returns
unfolding breaks_text
returns g c =
    let j = g.met.P.Put.joined in
    let count =
    subst (λ (n : ℕ). g.P.Put.Puts c.write_count.new.out c.write_count-2.new.out (line_text (codes "violations" ∷ decimal n ∷ [])))
    (sym (length-map c.args.violations.now seen_break)) c.write_count-2.ensures in
    j _ _ _ _ _ c.write_count.ensures (j _ _ _ _ _ count (j _ _ _ _ _ c.write_lines.ensures c.put.ensures))
