use Rattle.std.proofs.Common.{◌≡◌}
use Rattle.flash_dev.specs.Formatting.{IsFormatLeft}
use Rattle.flash_dev.specs.Moments.{Stays}
use Rattle.var_types.specs.Layout.{image_size}
use Rattle.flash_dev.proofs.Erased.{AreErased}
use Rattle.flash_dev.proofs.blank.erase_all.Given as goal

abbrev pub invariant-loop-block : goal.invariant-loop-block
invariant-loop-block g l = record {
  size : g.F.Flash.size l.flash ≡ image_size;
  moments : Stays IsFormatLeft g.F.Flash.moment g.F.Flash.left_since g.F.Flash.holds l.fn.flash l.flash;
  counted : g.F.Flash.fault_count l.flash ≡ g.F.Flash.fault_count l.fn.flash;
  erased : AreErased l.block (g.F.Flash.holds l.fn.flash) (g.F.Flash.holds l.flash);
}
