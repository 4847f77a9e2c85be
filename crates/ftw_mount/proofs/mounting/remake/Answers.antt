use Rattle.flash_dev.proofs.Calls.{leaves_weaken}
use Rattle.ftw_mount.specs.Mount.{HasUsedSlots}
use Rattle.ftw_mount.proofs.Mounts.{mount_moments, unmade_told}
use Rattle.ftw_work.specs.Work.{IsWorkLeft}
use Rattle.var_types.specs.declared.work_state.WorkState.TheVariants.{Clean}
use Rattle.ftw_mount.proofs.mounting.remake.Goals as goal

pub returns-clause-mounted : goal.returns-clause-mounted
returns-clause-mounted g c =
    leaves_weaken (IsWorkLeft (Clean 0)) (HasUsedSlots 0) (g.F.Flash.holds c.args.flash.now) (g.F.Flash.holds c.make.new.flash) c.in_ok-make.ensures.made
    (λ image left told is. is.says)

pub returns-clause-at_any_moment : goal.returns-clause-at_any_moment
returns-clause-at_any_moment g c = mount_moments _ _ (unmade_told _ c.requires.blank c.requires.unmade) c.make.ensures.at_any_moment

pub returns-in_err-make-clause-at_any_moment : goal.returns-in_err-make-clause-at_any_moment
returns-in_err-make-clause-at_any_moment g c = mount_moments _ _ (unmade_told _ c.requires.blank c.requires.unmade) c.make.ensures.at_any_moment
