use Rattle.std.proofs.Common.{◌≡◌, take}
use Rattle.flash_dev.specs.Rules.{cleared}
use Rattle.flash_dev.proofs.held_bytes.clear_bits.Given as goal

abbrev pub invariant-loop-offset : goal.invariant-loop-offset
invariant-loop-offset l = l.held ≡ cleared l.fn.held (take l.offset l.bytes)
