use Rattle.std.proofs.Common.{◌≡◌, Err, IfOk, subst}
use Rattle.flash_dev.specs.Rules.{Leaves}
use Rattle.ftw_mount.specs.declared.mount_fault.MountFault.TheVariants.{ForeignWork}
use Rattle.ftw_mount.specs.Mount.{Describes, HasUsedSlots, IsMountLeft}
use Rattle.ftw_mount.proofs.Mounts.{mount_stays, read_moments, told_now}
use Rattle.ftw_work.proofs.Told.{reads_first, told_same}
use Rattle.var_types.specs.Kept.{IsForeign}
use Rattle.ftw_mount.proofs.mounting.mount.Goals as goal

pub mount_by-requires-clause-describes : goal.mount_by-requires-clause-describes
mount_by-requires-clause-describes g c =
    told_now (Describes c.in_ok-kept.kept) (g.F.Flash.holds c.args.flash.now) (g.F.Flash.holds c.look_over.new.flash) c.look_over.ensures.kept
    c.in_ok-kept.ensures.describes

pub returns-clause-mounted : goal.returns-clause-mounted
returns-clause-mounted g c =
    subst (λ told. IfOk c.mount_by.result (λ slots. Leaves (HasUsedSlots slots) told (g.F.Flash.holds c.mount_by.new.flash))) c.look_over.ensures.kept
    c.mount_by.ensures.mounted

pub returns-clause-foreign : goal.returns-clause-foreign
returns-clause-foreign g c = λ is.
    told_same IsForeign (g.F.Flash.holds c.args.flash.now) (g.F.Flash.holds c.look_over.new.flash) c.look_over.ensures.kept (c.mount_by.ensures.foreign is)

pub returns-clause-only : goal.returns-clause-only
returns-clause-only g c = λ other.
    told_same (λ image. IsForeign image → c.mount_by.result ≡ Err ForeignWork) (g.F.Flash.holds c.args.flash.now) (g.F.Flash.holds c.look_over.new.flash)
    c.look_over.ensures.kept (c.mount_by.ensures.only other)

pub returns-clause-at_any_moment : goal.returns-clause-at_any_moment
returns-clause-at_any_moment g c = reads_first IsMountLeft _ _ _ mount_stays c.look_over.ensures.at_any_moment c.mount_by.ensures.at_any_moment

pub returns-in_err-kept-clause-at_any_moment : goal.returns-in_err-kept-clause-at_any_moment
returns-in_err-kept-clause-at_any_moment g c = read_moments _ _ c.look_over.ensures.at_any_moment
