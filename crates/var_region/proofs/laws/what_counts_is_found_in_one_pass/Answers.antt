use Rattle.var_types.proofs.Chosen.{chosen_in_one_pass}
use Rattle.var_region.proofs.laws.what_counts_is_found_in_one_pass.Goals as goal

pub returns : goal.returns
returns c = chosen_in_one_pass
