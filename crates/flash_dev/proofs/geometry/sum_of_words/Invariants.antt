use Rattle.std.proofs.Common.{◌≡◌, ◌+◌, ◌%◌, ◌<◌, length}
use Rattle.flash_dev.specs.Geometry.{sum_of_words}
use Rattle.flash_dev.proofs.geometry.sum_of_words.Given as goal

abbrev pub invariant-words : goal.invariant-words
invariant-words l = record {
  sum : (l.sum + sum_of_words l.left) % 65536 ≡ sum_of_words l.bytes % 65536;
  fits : l.sum < 65536;
}

abbrev pub decreases-words : goal.decreases-words
decreases-words l = length l.left
