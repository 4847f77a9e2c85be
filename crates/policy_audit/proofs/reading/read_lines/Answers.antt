use Rattle.std.proofs.Common.{◌≡◌, ℕ, ◌+◌, ◌≤◌, false, List, [], ◌∷◌, All, length, Err, arith, refl, sym, ap, subst, ◌∙◌}
use Rattle.std.proofs.lemmas.List.Elements.{All-nil}
use Rattle.std.specs.Str.Lines.{lines}
use Rattle.script_text.specs.FirstLine.{HasBadLine}
use Rattle.script_text.specs.Lines.{is_comment, is_text}
use Rattle.script_text.specs.Words.{◌>>=◌}
use Rattle.var_types.specs.declared.key.Key.{Key}
use Rattle.var_types.specs.declared.policy.Policy.{Policy}
use Rattle.var_types.specs.PolicyEntry.{CanSpell}
use Rattle.policy_audit.specs.declared.policy_line.PolicyLine.TheVariants.{Text}
use Rattle.policy_audit.specs.declared.policy_text_fault.PolicyTextFault.TheVariants.{Line}
use Rattle.policy_audit.specs.Names.{HoldsNames}
use Rattle.policy_audit.specs.Text.{after_line, policies_from}
use Rattle.policy_audit.specs.Words.{line_policy}
use Rattle.policy_audit.proofs.SameNames.{holds_none}
use Rattle.policy_audit.proofs.reading.read_lines.Goals as goal

-- a bad line is refused
bad_line : (line : List ℕ) → is_comment line ≡ false → is_text line ≡ false → line_policy line ≡ Err Text
unfolding line_policy
bad_line line comment text = rw (comment, text) refl

-- so are lines that begin with one
bad_lines : (number : ℕ) (before : List Policy) (text : List ℕ) → HasBadLine text → policies_from number before (lines text) ≡ Err (Line number Text)
unfolding policies_from
bad_lines number before text (line, later, is, comment, bad) =
    ap (policies_from number before) is
    ∙ ap (λ read. after_line number before read >>= λ after. policies_from (number + 1) after later) (bad_line line comment bad)

pub lines-init : goal.lines-init
lines-init c =
    let none = c.new-policies.ensures.items in
    record {
      one_text = ap (λ (ps : List Policy). policies_from 1 ps (lines c.args.text.now)) none;
      names = subst (λ (ps : List Policy). HoldsNames c.new-names.result.keys ps) (sym none)
          (subst (λ (ks : List Key). HoldsNames ks []) (sym c.new-names.ensures.empty) holds_none);
      spelled = subst (λ (ps : List Policy). All CanSpell ps) (sym none) (All-nil CanSpell);
      few = subst (λ (ps : List Policy). length ps ≤ 1024) (sym none) (omega arith);
      bounded = omega (arith, c.requires);
    }

pub returns-in_default-clause-err : goal.returns-in_default-clause-err
returns-in_default-clause-err c = sym c.lines.invariant.one_text ∙ bad_lines c.lines.number _ c.lines.rest.now c.in_default.ensures
