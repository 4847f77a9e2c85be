use Rattle.std.proofs.Common.{◌≡◌, ℕ, ◌<◌, get_or, take}
use Rattle.flash_dev.specs.MemFlash.{even_bytes}
use Rattle.flash_dev.specs.Rules.{cleared}
use Rattle.flash_dev.proofs.fated_bytes.clear_even_bits.Given as goal

abbrev pub invariant-loop-offset : goal.invariant-loop-offset
invariant-loop-offset l = record {
  evens : l.held ≡ cleared l.fn.held (even_bytes (take l.offset l.bytes));
  bytes : (k : ℕ) → get_or l.fn.held k 0 < 256;
}
