use Rattle.std.proofs.Common.{◌≡◌, ◌+◌, ◌≤◌, [], All, length}
use Rattle.std.specs.Str.Lines.{lines}
use Rattle.var_types.specs.PolicyEntry.{CanSpell}
use Rattle.policy_audit.specs.Names.{HoldsNames}
use Rattle.policy_audit.specs.Text.{most_text_bytes, policies_from}
use Rattle.policy_audit.proofs.reading.read_lines.Given as goal

abbrev pub invariant-lines : goal.invariant-lines
invariant-lines l = record {
  one_text : policies_from l.number l.policies.items (lines l.rest) ≡ policies_from 1 [] (lines l.text);
  names : HoldsNames l.names.keys l.policies.items;
  spelled : All CanSpell l.policies.items;
  few : length l.policies.items ≤ 1024;
  bounded : l.number + length l.rest ≤ most_text_bytes + 1;
}

abbrev pub decreases-lines : goal.decreases-lines
decreases-lines l = length l.rest
