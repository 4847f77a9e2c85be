use Rattle.var_types.proofs.LegalSessions.{IsLegalSession-more}
use Rattle.var_types.proofs.laws.legal_sessions_grow.Goals as goal

pub returns : goal.returns
returns c = IsLegalSession-more
