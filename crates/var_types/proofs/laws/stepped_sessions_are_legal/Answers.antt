use Rattle.var_types.proofs.Sessions.{IsLegalSession-stepped}
use Rattle.var_types.proofs.laws.stepped_sessions_are_legal.Goals as goal

pub returns : goal.returns
returns c = IsLegalSession-stepped
