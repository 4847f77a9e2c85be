use Rattle.var_region.proofs.Marks.{MarksChangeOneRecord-all, MarksRestateOneLiveRecord-all}
use Rattle.var_region.proofs.Stored.{LiveRecordsStandWhole-all}
use Rattle.var_region.proofs.laws.marks_change_one_record.Goals as goal

pub returns-clause-record : goal.returns-clause-record
returns-clause-record c = MarksChangeOneRecord-all

pub returns-clause-live : goal.returns-clause-live
returns-clause-live c = MarksRestateOneLiveRecord-all

pub returns-clause-whole : goal.returns-clause-whole
returns-clause-whole c = LiveRecordsStandWhole-all
