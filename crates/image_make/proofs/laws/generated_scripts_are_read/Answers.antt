use Rattle.image_make.proofs.Scripts.{length-generated_calls, script_of-generated_script}
use Rattle.image_make.proofs.laws.generated_scripts_are_read.Goals as goal

pub returns-clause-read : goal.returns-clause-read
returns-clause-read c = script_of-generated_script

pub returns-clause-count : goal.returns-clause-count
returns-clause-count c = length-generated_calls
