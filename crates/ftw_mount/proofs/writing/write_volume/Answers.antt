use Rattle.std.proofs.Common.{◌+◌}
use Rattle.ftw_mount.specs.Mount.{HasUsedSlots, IsPrepared}
use Rattle.ftw_mount.proofs.Writes.{is_clean, kept_or, kept_then_or, now_freed, ready, told_further, told_still, written_after}
use Rattle.ftw_work.proofs.Told.{content_moments}
use Rattle.ftw_mount.proofs.writing.write_volume.Goals as goal

pub prepare-requires-clause-clean : goal.prepare-requires-clause-clean
prepare-requires-clause-clean g c =
    let now = g.F.Flash.holds c.free_slot.new.flash in
    is_clean c.in_ok-slot.slot now (now_freed c.in_ok-slot.slot (g.F.Flash.holds c.args.flash.now) now c.in_ok-slot.ensures.freed)

pub commit-requires-clause-ready : goal.commit-requires-clause-ready
commit-requires-clause-ready g c =
    ready c.in_ok-slot.slot c.args.content.now (g.F.Flash.holds c.args.flash.now) (g.F.Flash.holds c.free_slot.new.flash) (g.F.Flash.holds c.prepare.new.flash)
    c.in_ok-slot.ensures.freed c.in_ok-prepare.ensures.prepared

pub returns-clause-written : goal.returns-clause-written
returns-clause-written g c =
    let old = g.F.Flash.holds c.args.flash.now in
    let now = g.F.Flash.holds c.free_slot.new.flash in
    let next = g.F.Flash.holds c.prepare.new.flash in
    written_after c.args.content.now (c.in_ok-slot.slot + 1) old next (g.F.Flash.holds c.commit.new.flash)
    (told_further old now next (told_still (HasUsedSlots c.in_ok-slot.slot) old now c.in_ok-slot.ensures.freed)
    (told_still (IsPrepared c.args.content.now) now next c.in_ok-prepare.ensures.prepared))
    c.in_ok-commit.ensures.written

pub returns-clause-at_any_moment : goal.returns-clause-at_any_moment
returns-clause-at_any_moment g c =
    kept_then_or c.args.content.now _ _ _ (content_moments _ _ _ c.free_slot.ensures.at_any_moment c.prepare.ensures.at_any_moment)
    c.commit.ensures.at_any_moment

pub returns-in_err-slot-clause-at_any_moment : goal.returns-in_err-slot-clause-at_any_moment
returns-in_err-slot-clause-at_any_moment g c = kept_or c.args.content.now _ _ c.free_slot.ensures.at_any_moment

pub returns-in_err-prepare-clause-at_any_moment : goal.returns-in_err-prepare-clause-at_any_moment
returns-in_err-prepare-clause-at_any_moment g c =
    kept_or c.args.content.now _ _ (content_moments _ _ _ c.free_slot.ensures.at_any_moment c.prepare.ensures.at_any_moment)

pub returns-in_err-commit-clause-at_any_moment : goal.returns-in_err-commit-clause-at_any_moment
returns-in_err-commit-clause-at_any_moment g c =
    kept_then_or c.args.content.now _ _ _ (content_moments _ _ _ c.free_slot.ensures.at_any_moment c.prepare.ensures.at_any_moment)
    c.commit.ensures.at_any_moment
