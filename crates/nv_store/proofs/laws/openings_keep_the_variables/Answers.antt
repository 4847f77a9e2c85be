use Rattle.nv_store.proofs.Reopened.{openings_keep}
use Rattle.nv_store.proofs.laws.openings_keep_the_variables.Goals as goal

pub returns : goal.returns
returns c = openings_keep
