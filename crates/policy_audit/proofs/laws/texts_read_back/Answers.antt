use Rattle.policy_audit.proofs.TextsBack.{line_back, text_back}
use Rattle.policy_audit.proofs.laws.texts_read_back.Goals as goal

pub returns-clause-lines : goal.returns-clause-lines
returns-clause-lines c = line_back c.entries_read_back.ensures.read

pub returns-clause-text : goal.returns-clause-text
returns-clause-text c = text_back c.entries_read_back.ensures.read
