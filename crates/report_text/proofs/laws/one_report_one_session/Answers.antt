use Rattle.report_text.proofs.OneSession.{same_session}
use Rattle.report_text.proofs.laws.one_report_one_session.Goals as goal

pub returns : goal.returns
returns c = same_session
