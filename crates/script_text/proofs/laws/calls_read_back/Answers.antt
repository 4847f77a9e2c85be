use Rattle.script_text.proofs.CallTexts.{script_of-line_of, script_of-ended}
use Rattle.script_text.proofs.laws.calls_read_back.Goals as goal

pub returns-clause-line : goal.returns-clause-line
returns-clause-line c = script_of-line_of

pub returns-clause-ended : goal.returns-clause-ended
returns-clause-ended c = script_of-ended
