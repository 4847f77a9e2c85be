use Rattle.std.proofs.Common.{arith, length-take-le, sym}
use Rattle.ftw_mount.proofs.looking.look_over.Goals as goal

pub slice_bounds-look-end-2 : goal.slice_bounds-look-end-2
slice_bounds-look-end-2 g c = sym (length-take-le 4096 c.args.buffer.now (omega (arith, c.requires.buffer)))

pub look-requires-clause-buffer : goal.look-requires-clause-buffer
look-requires-clause-buffer g c = length-take-le 4096 c.args.buffer.now (omega (arith, c.requires.buffer))
