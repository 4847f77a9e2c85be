use Rattle.std.proofs.Common.{◌≡◌, ◌+◌, ◌≤◌, [], ◌∷◌, length, map}
use Rattle.std.specs.Str.Lines.{lines}
use Rattle.script_text.specs.CallLines.{lines_before, lines_behind}
use Rattle.script_text.specs.Script.{calls_from, most_script_bytes}
use Rattle.script_text.proofs.call_lines.calls_in.Given as goal

abbrev pub invariant-lines : goal.invariant-lines
invariant-lines l = record {
  one_script :
      calls_from l.number (map (λ v. v.items) l.calls.items) (lines_before l.end (lines l.rest))
      ≡ calls_from 1 ([] ∷ []) (lines_before l.end (lines l.text));
  one_behind : lines_behind l.end (lines l.rest) ≡ lines_behind l.end (lines l.text);
  numbered : l.number + length (lines_before l.end (lines l.rest)) ≡ 1 + length (lines_before l.end (lines l.text));
  bounded : l.number + length l.rest ≤ most_script_bytes + 1;
}

abbrev pub decreases-lines : goal.decreases-lines
decreases-lines l = length l.rest
