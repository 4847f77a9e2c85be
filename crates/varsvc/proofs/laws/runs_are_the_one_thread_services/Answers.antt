use Rattle.varsvc.proofs.Stepped.{processors_stepped}
use Rattle.varsvc.proofs.laws.runs_are_the_one_thread_services.Goals as goal

pub returns : goal.returns
returns c = processors_stepped
