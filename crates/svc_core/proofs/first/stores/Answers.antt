use Rattle.std.proofs.Common.{sym, arith}
use Rattle.std.proofs.Math.Seq.{length-take-le}
use Rattle.svc_core.proofs.first.stores.Goals as goal

pub slice_bounds-make-end : goal.slice_bounds-make-end
slice_bounds-make-end c = sym (length-take-le 57344 c.args.image.now (omega (arith, c.requires)))

pub make-requires-clause-non_volatile : goal.make-requires-clause-non_volatile
make-requires-clause-non_volatile c = length-take-le 57344 c.args.image.now (omega (arith, c.requires))
