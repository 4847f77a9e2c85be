use Rattle.ftw_work.proofs.Steps.{image_sized}
use Rattle.nv_store.proofs.Openings.{headers_refuse, mount_accepts, mount_mirrors, mount_refuses}
use Rattle.nv_store.proofs.opening.read_volume.Goals as goal

pub returns-in-Ok-check_headers-clause-mirrored : goal.returns-in-Ok-check_headers-clause-mirrored
returns-in-Ok-check_headers-clause-mirrored g c =
    mount_mirrors c.read_kept.new.into (g.F.Flash.holds c.args.flash.now) (g.F.Flash.holds c.read_kept.new.flash) c.read_kept.ensures.kept
    c.in-Ok.ensures.content (g.F.Flash.holds c.mount_read.new.flash) c.mount_read.result c.mount_read.ensures.mounted c.mount_read.ensures.at_any_moment.now

pub returns-in-Ok-check_headers-clause-accepted : goal.returns-in-Ok-check_headers-clause-accepted
returns-in-Ok-check_headers-clause-accepted g c =
    mount_accepts c.read_kept.new.into (g.F.Flash.holds c.args.flash.now) (g.F.Flash.holds c.read_kept.new.flash) c.read_kept.ensures.kept
    c.in-Ok.ensures.content (image_sized _ _ c.requires.size (g.met.F.Flash.sized c.args.flash.now)) c.in-Ok-check_headers.ensures.accepted
    c.mount_read.result c.mount_read.ensures.only

pub returns-in-Ok-check_headers-clause-refused : goal.returns-in-Ok-check_headers-clause-refused
returns-in-Ok-check_headers-clause-refused g c =
    mount_refuses c.read_kept.new.into (g.F.Flash.holds c.args.flash.now) (g.F.Flash.holds c.read_kept.new.flash) c.read_kept.ensures.kept
    c.in-Ok.ensures.content (image_sized _ _ c.requires.size (g.met.F.Flash.sized c.args.flash.now)) c.in-Ok-check_headers.ensures.accepted
    c.mount_read.result c.mount_read.ensures.foreign c.mount_read.ensures.two

pub returns-in-Err-check_headers-clause-refused : goal.returns-in-Err-check_headers-clause-refused
returns-in-Err-check_headers-clause-refused g c =
    λ by_image.
    headers_refuse c.read_kept.new.into c.in-Err-check_headers.why (g.F.Flash.holds c.args.flash.now) (image_sized _ _ c.requires.size (g.met.F.Flash.sized c.args.flash.now))
    c.in-Ok.ensures.content c.in-Err-check_headers.ensures.refused
