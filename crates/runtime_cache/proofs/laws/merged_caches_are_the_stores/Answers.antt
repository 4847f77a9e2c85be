use Rattle.runtime_cache.proofs.Merges.{merged_all}
use Rattle.runtime_cache.proofs.laws.merged_caches_are_the_stores.Goals as goal

pub returns : goal.returns
returns c = merged_all
