use Rattle.std.proofs.Common.{arith, sym}
use Rattle.std.proofs.lemmas.List.{length-take-le}
use Rattle.flash_dev.proofs.geometry.check_sum.Goals as goal

pub slice_bounds-sum_of_words-end : goal.slice_bounds-sum_of_words-end
slice_bounds-sum_of_words-end c = sym (length-take-le 72 c.args.first.now (omega arith))
