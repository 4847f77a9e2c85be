use Rattle.std.proofs.Common.{◌≡◌, drop}
use Rattle.script_text.specs.Digits.{number_from}
use Rattle.script_text.proofs.numbers.append_digits.Given as goal

abbrev pub invariant-loop-c : goal.invariant-loop-c
invariant-loop-c l = number_from l.base l.number (drop l.c-index l.digits) ≡ number_from l.base 0 l.digits
