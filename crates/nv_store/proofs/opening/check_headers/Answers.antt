use Rattle.std.proofs.Common.{sym, arith}
use Rattle.std.proofs.lemmas.List.{length-take-le}
use Rattle.nv_store.proofs.opening.check_headers.Goals as goal

pub slice_bounds-geometry_of-end : goal.slice_bounds-geometry_of-end
slice_bounds-geometry_of-end c = let size = c.requires in sym (length-take-le 100 c.args.content.now (omega (arith, size)))
