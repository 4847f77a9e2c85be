use Rattle.std.proofs.Common.{◌≡◌, ◌*◌, ◌≤◌}
use Rattle.flash_dev.specs.Moments.{Stays}
use Rattle.var_types.specs.Placed.{IsOutsideKept}
use Rattle.var_types.specs.Layout.{image_size}
use Rattle.ftw_spare.proofs.Filling.{AreErased}
use Rattle.ftw_spare.proofs.blocks.erase_blocks.Given as goal

abbrev pub invariant-loop-block : goal.invariant-loop-block
invariant-loop-block g l = record {
  from : l.from ≤ l.block;
  size : g.F.Flash.size l.flash ≡ image_size;
  moments : Stays (IsOutsideKept (4096 * l.from) (4096 * l.to)) g.F.Flash.moment g.F.Flash.left_since g.F.Flash.holds l.fn.flash l.flash;
  counted : g.F.Flash.fault_count l.flash ≡ g.F.Flash.fault_count l.fn.flash;
  erased : AreErased l.from l.block (g.F.Flash.holds l.fn.flash) (g.F.Flash.holds l.flash);
}
