use Rattle.std.proofs.Common.{◌≡◌, ◌<◌, drop}
use Rattle.varsvc.specs.Number.{number_from}
use Rattle.varsvc.proofs.words.number.number_from.Given as goal

abbrev pub invariant-loop-c : goal.invariant-loop-c
invariant-loop-c l = record {
  same : number_from l.number (drop l.c-index l.digits) ≡ number_from 0 l.digits;
  small : l.number < 1000000;
}
