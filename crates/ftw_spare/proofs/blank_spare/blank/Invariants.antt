use Rattle.std.proofs.Common.{◌≡◌, ◌≤◌, length, IfSome}
use Rattle.flash_dev.specs.Moments.{Stays}
use Rattle.flash_dev.specs.Rules.{IsKept}
use Rattle.var_types.specs.Layout.{block_size, image_size}
use Rattle.ftw_spare.proofs.BlankBlocks.{IsBlankTo}
use Rattle.ftw_spare.proofs.blank_spare.blank.Given as goal

abbrev pub invariant-loop-block : goal.invariant-loop-block
invariant-loop-block g l = record {
  from : 16 ≤ l.block;
  size : g.F.Flash.size l.flash ≡ image_size;
  buffer : length l.buffer ≡ block_size;
  kept : g.F.Flash.holds l.flash ≡ g.F.Flash.holds l.fn.flash;
  moments : Stays IsKept g.F.Flash.moment g.F.Flash.left_since g.F.Flash.holds l.fn.flash l.flash;
  counted : g.F.Flash.fault_count l.flash ≡ g.F.Flash.fault_count l.fn.flash;
  blank : IfSome (g.F.Flash.holds l.fn.flash) (IsBlankTo l.block);
}
