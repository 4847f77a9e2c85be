use Rattle.var_region.proofs.WhichCounts.{LastTakesTheVariable-all, TwinsBehindWouldCount-all, TwinsMayGo-all}
use Rattle.var_region.proofs.laws.last_step_of_a_deletion_changes_the_map.Goals as goal

pub returns-clause-twin : goal.returns-clause-twin
returns-clause-twin c = TwinsMayGo-all

pub returns-clause-last : goal.returns-clause-last
returns-clause-last c = LastTakesTheVariable-all

pub returns-clause-behind : goal.returns-clause-behind
returns-clause-behind c = TwinsBehindWouldCount-all
