use Rattle.var_types.proofs.WorkAreas.{clean_says, pending_says, says_clean, says_pending}
use Rattle.var_types.proofs.laws.work_areas_are_known_by_their_state.Goals as goal

pub returns-clause-clean : goal.returns-clause-clean
returns-clause-clean c = clean_says

pub returns-clause-clean_only : goal.returns-clause-clean_only
returns-clause-clean_only c = says_clean

pub returns-clause-pending : goal.returns-clause-pending
returns-clause-pending c = pending_says

pub returns-clause-pending_only : goal.returns-clause-pending_only
returns-clause-pending_only c = says_pending
