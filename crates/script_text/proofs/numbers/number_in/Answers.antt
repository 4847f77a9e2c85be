use Rattle.std.proofs.Common.{rules}
use Rattle.script_text.proofs.DigitLemmas.{number_in-is}
use Rattle.script_text.proofs.numbers.number_in.Goals as goal

pub returns-then-is_empty : goal.returns-then-is_empty
returns-then-is_empty c = rw (number_in-is c.args.base c.args.digits.now) (search rules)

pub returns-in-Some : goal.returns-in-Some
returns-in-Some c = rw (number_in-is c.args.base c.args.digits.now) (search rules)

pub returns-in-None : goal.returns-in-None
returns-in-None c = rw (number_in-is c.args.base c.args.digits.now) (search rules)
