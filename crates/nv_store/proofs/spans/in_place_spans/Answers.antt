use Rattle.std.proofs.Common.{◌≡◌, ◌+◌, Bool, true, false, ◌&&◌, length, arith}
use Rattle.std.proofs.lemmas.Bool.{leb-true}
use Rattle.var_types.specs.Region.{is_tail_clean, tail_offset}
use Rattle.var_region.specs.NewRecord.{new_size}
use Rattle.nv_store.proofs.spans.in_place_spans.Goals as goal

right_of : (a b : Bool) → (a && b) ≡ true → b ≡ true
right_of true b h = h
right_of false b h = cc

pub overflow_add-result : goal.overflow_add-result
overflow_add-result c =
    let region = c.args.region.now in
    let size = new_size c.args.new.now in
    let room = leb-true (tail_offset region + size) (length region.bytes) (right_of (is_tail_clean region) _ c.requires.fits) in
    omega arith
