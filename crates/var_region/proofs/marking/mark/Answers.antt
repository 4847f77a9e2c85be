use Rattle.std.proofs.Common.{arith}
use Rattle.var_region.proofs.Marked.{whole_room}
use Rattle.var_region.proofs.marking.mark.Goals as goal

pub bounds-bytes-state : goal.bounds-bytes-state
bounds-bytes-state c = omega (arith, whole_room c.args.bytes.now c.args.at c.requires)

pub bounds-bytes-state-2 : goal.bounds-bytes-state-2
bounds-bytes-state-2 c = omega (arith, whole_room c.args.bytes.now c.args.at c.requires)
