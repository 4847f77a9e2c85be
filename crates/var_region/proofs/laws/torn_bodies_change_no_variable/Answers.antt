use Rattle.var_region.proofs.Begun.{BegunRecordsStand-all}
use Rattle.var_region.proofs.Torn.{TornBodiesChangeNoVariable-all}
use Rattle.var_region.proofs.laws.torn_bodies_change_no_variable.Goals as goal

pub returns-clause-records : goal.returns-clause-records
returns-clause-records c = BegunRecordsStand-all

pub returns-clause-lives : goal.returns-clause-lives
returns-clause-lives c = TornBodiesChangeNoVariable-all
