use Rattle.region_compact.proofs.Censuses.{CompactionsLeaveAddedAlone-all}
use Rattle.region_compact.proofs.laws.compactions_leave_added_alone.Goals as goal

pub returns : goal.returns
returns c = CompactionsLeaveAddedAlone-all
