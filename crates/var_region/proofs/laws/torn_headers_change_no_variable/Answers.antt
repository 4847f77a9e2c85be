use Rattle.var_region.proofs.Torn.{TornHeadersAreHeadersAtMost-all, TornHeadersChangeNoVariable-all}
use Rattle.var_region.proofs.laws.torn_headers_change_no_variable.Goals as goal

pub returns-clause-records : goal.returns-clause-records
returns-clause-records c = TornHeadersAreHeadersAtMost-all

pub returns-clause-lives : goal.returns-clause-lives
returns-clause-lives c = TornHeadersChangeNoVariable-all
