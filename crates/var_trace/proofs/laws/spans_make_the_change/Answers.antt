use Rattle.std.proofs.Common.{sym, ap, ◌∙◌, get_or}
use Rattle.std.proofs.Common.{List, ℕ}
use Rattle.var_trace.proofs.Pieces.{change_made, get-pasted}
use Rattle.var_trace.proofs.laws.spans_make_the_change.Goals as goal

pub returns-clause-makes : goal.returns-clause-makes
returns-clause-makes c = change_made

pub returns-clause-nothing_else : goal.returns-clause-nothing_else
returns-clause-nothing_else c = λ spans old new at within written out.
    ap (λ (bytes : List ℕ). get_or bytes at 0) (sym written.pasted) ∙ get-pasted spans old new at written.len within out
