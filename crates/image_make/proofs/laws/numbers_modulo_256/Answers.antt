use Rattle.image_make.proofs.Scripts.{number_of_script, same_script}
use Rattle.image_make.proofs.laws.numbers_modulo_256.Goals as goal

pub returns : goal.returns
returns c = λ m n. (number_of_script m n, same_script m n)
