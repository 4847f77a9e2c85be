use Rattle.policy_audit.proofs.Spelled.{entry_spelled}
use Rattle.policy_audit.proofs.TextsBack.{through_back}
use Rattle.policy_audit.proofs.laws.entries_spell_policies.Goals as goal

pub returns-clause-spelled : goal.returns-clause-spelled
returns-clause-spelled c = entry_spelled

pub returns-clause-read : goal.returns-clause-read
returns-clause-read c = λ policy can. (c.entries_read_back.ensures.read policy can, through_back c.entries_read_back.ensures.read policy can)
