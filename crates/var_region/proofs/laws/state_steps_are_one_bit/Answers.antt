use Rattle.var_region.proofs.StateBits.{StateStepsAreOneBit-all}
use Rattle.var_region.proofs.laws.state_steps_are_one_bit.Goals as goal

pub returns : goal.returns
returns c = StateStepsAreOneBit-all
