use Rattle.std.proofs.Common.{◌≡◌, ◌+◌, ◌≤◌, length}
use Rattle.var_types.specs.Layout.{block_size}
use Rattle.flash_dev.proofs.file_flash.program_range.Given as goal

abbrev pub invariant-loop-part : goal.invariant-loop-part
invariant-loop-part g l = record {
  size : l.part-iterator.size ≡ block_size;
  offset : l.offset + length l.part-iterator.rest.now ≤ l.at + length l.bytes;
  buffer : length l.buffer ≡ block_size;
}
