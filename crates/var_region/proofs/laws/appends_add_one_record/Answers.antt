use Rattle.var_region.proofs.Appends.{AppendsAddOneLiveRecord-all, AppendsAddOneRecord-all, AppendsPutTheirVariable-all}
use Rattle.var_region.proofs.laws.appends_add_one_record.Goals as goal

pub returns-clause-record : goal.returns-clause-record
returns-clause-record c = AppendsAddOneRecord-all

pub returns-clause-live : goal.returns-clause-live
returns-clause-live c = AppendsAddOneLiveRecord-all

pub returns-clause-map : goal.returns-clause-map
returns-clause-map c = AppendsPutTheirVariable-all
