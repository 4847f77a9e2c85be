use Rattle.nv_store.proofs.Reopened.{changes_keep}
use Rattle.nv_store.proofs.laws.changes_are_whole.Goals as goal

pub returns : goal.returns
returns c = changes_keep
