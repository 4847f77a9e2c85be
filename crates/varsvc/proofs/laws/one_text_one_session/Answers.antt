use Rattle.varsvc.proofs.OneSession.{one_session}
use Rattle.varsvc.proofs.laws.one_text_one_session.Goals as goal

pub returns : goal.returns
returns c = one_session
