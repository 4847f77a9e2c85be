use Rattle.auth_rules.proofs.Judgements.{judges, keeps}
use Rattle.auth_rules.proofs.laws.judgements_are_the_rules.Goals as goal

pub returns-clause-judges : goal.returns-clause-judges
returns-clause-judges c = judges

pub returns-clause-keeps : goal.returns-clause-keeps
returns-clause-keeps c = keeps
