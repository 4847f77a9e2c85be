use Rattle.varsvc.proofs.Judged.{all_judged}
use Rattle.varsvc.proofs.laws.calls_are_judged.Goals as goal

pub returns : goal.returns
returns g c = λ asked input flash flash_after counts status old new printed calm. all_judged asked _ counts status old new printed calm
