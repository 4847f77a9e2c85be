use Rattle.var_region.proofs.WhichCounts.{AddedMayGoIntoTransition-all, AddedPutTheirVariable-all, TwinsMayGo-all}
use Rattle.var_region.proofs.laws.one_step_of_a_write_changes_the_map.Goals as goal

pub returns-clause-twin : goal.returns-clause-twin
returns-clause-twin c = TwinsMayGo-all

pub returns-clause-old : goal.returns-clause-old
returns-clause-old c = AddedMayGoIntoTransition-all

pub returns-clause-new : goal.returns-clause-new
returns-clause-new c = AddedPutTheirVariable-all
