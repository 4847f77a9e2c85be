use Rattle.std.proofs.Common.{arith, ◌≡◌, length, length-take}
use Rattle.std.proofs.lemmas.List.{take_rest}
use Rattle.outside.proofs.Pieces.{left_of_copied}
use Rattle.outside.proofs.mem_source.MemSourceSource.read.Goals as goal

pub returns-clause-bytes : goal.returns-clause-bytes
returns-clause-bytes c =
    let copied = rw (c.deref-2.ensures.value, take_rest) at c.copy_from_slice.ensures.after in
    let measured : length c.copy_from_slice.new.self ≡ c.min-count.result =
    omega (arith, c.copy_from_slice.ensures.len, length-take c.min-count.result c.args.into.now, c.min-count.ensures) in
    rw (← c.self.view_is) (left_of_copied _ _ _ _ _ copied measured)
