use Rattle.std.proofs.Common.{◌≡◌, ◌∙◌, refl}
use Rattle.ftw_mount.specs.Mount.{IsWritePending}
use Rattle.ftw_mount.proofs.Mounts.{finished, is_pending, is_used, mount_moments, now_equal, pending_told, read_moments, spare_read, still_pending, told_now}
use Rattle.ftw_work.proofs.Told.{content_moments, reads_first}
use Rattle.var_types.specs.Kept.{IsContentKept, spare_volume}
use Rattle.var_types.proofs.Parts.{content_stays}
use Rattle.ftw_mount.proofs.mounting.finish.Goals as goal

pub copy_to_dest-requires : goal.copy_to_dest-requires
copy_to_dest-requires g c =
    let old = g.F.Flash.holds c.args.flash.now in
    let now = g.F.Flash.holds c.read.new.self in
    let pending = told_now (IsWritePending c.args.slot) old now c.read.ensures.kept c.requires.pending in
    record {
      size = c.read.ensures.size ∙ c.requires.size;
      content = c.read.auto.into ∙ c.requires.buffer;
      pending = is_pending c.args.slot now pending;
      used = is_used c.args.slot now pending;
      same =
          told_now (λ image. c.read.new.into ≡ spare_volume image) old now c.read.ensures.kept
          (spare_read _ c.read.new.into old c.requires.buffer c.in_ok-read.ensures.bytes);
    }

pub dest_done-requires : goal.dest_done-requires
dest_done-requires g c =
    let old = g.F.Flash.holds c.args.flash.now in
    let now = g.F.Flash.holds c.read.new.self in
    record {
      size = c.copy_to_dest.ensures.same_size ∙ c.read.ensures.size ∙ c.requires.size;
      slot = c.requires.slot;
      pending =
          still_pending c.args.slot c.read.new.into now _ (told_now (IsWritePending c.args.slot) old now c.read.ensures.kept c.requires.pending)
          c.in_ok-copy_to_dest.ensures.copied;
      copied =
          now_equal c.read.new.into now _
          (told_now (λ image. c.read.new.into ≡ spare_volume image) old now c.read.ensures.kept
          (spare_read _ c.read.new.into old c.requires.buffer c.in_ok-read.ensures.bytes))
          c.in_ok-copy_to_dest.ensures.copied;
    }

pub returns-clause-mounted : goal.returns-clause-mounted
returns-clause-mounted g c =
    finished c.read.new.into c.args.slot (g.F.Flash.holds c.args.flash.now) (g.F.Flash.holds c.read.new.self) (g.F.Flash.holds c.copy_to_dest.new.flash)
    (g.F.Flash.holds c.dest_done.new.flash) c.read.ensures.kept c.in_ok-copy_to_dest.ensures.copied c.in_ok-dest_done.ensures.opened

pub returns-clause-at_any_moment : goal.returns-clause-at_any_moment
returns-clause-at_any_moment g c =
    mount_moments _ _ (pending_told c.args.slot _ c.requires.pending)
    (reads_first IsContentKept _ _ _ content_stays c.read.ensures.at_any_moment
    (content_moments _ _ _ c.copy_to_dest.ensures.at_any_moment c.dest_done.ensures.at_any_moment))

pub returns-in_err-read-clause-at_any_moment : goal.returns-in_err-read-clause-at_any_moment
returns-in_err-read-clause-at_any_moment g c = read_moments _ _ c.read.ensures.at_any_moment

pub returns-in_err-copy_to_dest-clause-at_any_moment : goal.returns-in_err-copy_to_dest-clause-at_any_moment
returns-in_err-copy_to_dest-clause-at_any_moment g c =
    mount_moments _ _ (pending_told c.args.slot _ c.requires.pending)
    (reads_first IsContentKept _ _ _ content_stays c.read.ensures.at_any_moment c.copy_to_dest.ensures.at_any_moment)

pub returns-in_err-dest_done-clause-at_any_moment : goal.returns-in_err-dest_done-clause-at_any_moment
returns-in_err-dest_done-clause-at_any_moment g c =
    mount_moments _ _ (pending_told c.args.slot _ c.requires.pending)
    (reads_first IsContentKept _ _ _ content_stays c.read.ensures.at_any_moment
    (content_moments _ _ _ c.copy_to_dest.ensures.at_any_moment c.dest_done.ensures.at_any_moment))
