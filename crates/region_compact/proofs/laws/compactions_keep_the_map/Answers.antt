use Rattle.region_compact.proofs.MapAfter.{CompactionsKeepTheMap-all}
use Rattle.region_compact.proofs.Orders.{CompactionsKeepTheOrder-all, CompactionsLeaveOrder-all}
use Rattle.region_compact.proofs.laws.compactions_keep_the_map.Goals as goal

pub returns-clause-map : goal.returns-clause-map
returns-clause-map c = CompactionsKeepTheMap-all

pub returns-clause-records : goal.returns-clause-records
returns-clause-records c = CompactionsKeepTheOrder-all

pub returns-clause-clean : goal.returns-clause-clean
returns-clause-clean c = CompactionsLeaveOrder-all
