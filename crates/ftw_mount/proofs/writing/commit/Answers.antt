use Rattle.std.proofs.Common.{◌≡◌, ◌+◌, ◌∙◌}
use Rattle.std.proofs.lemmas.Result.{on_ok_weaker}
use Rattle.ftw_mount.proofs.Writes.{done, done_equal, done_pending, ready_clean, ready_used, taken, taken_moments, taken_pending, taken_same, taken_used, taking_moments, told_further, told_still, written}
use Rattle.ftw_spare.specs.Spare.{IsCopied}
use Rattle.ftw_work.specs.Work.{IsWorkLeft}
use Rattle.ftw_work.proofs.Told.{content_moments}
use Rattle.var_types.specs.declared.work_state.WorkState.TheVariants.{Pending}
use Rattle.ftw_mount.proofs.writing.commit.Goals as goal

pub spare_done-requires : goal.spare_done-requires
spare_done-requires g c = record {
  size = c.requires.size;
  slot = c.requires.slot;
  clean = ready_clean c.args.slot c.args.content.now (g.F.Flash.holds c.args.flash.now) c.requires.ready;
  used = ready_used c.args.slot c.args.content.now (g.F.Flash.holds c.args.flash.now) c.requires.used c.requires.ready;
}

pub copy_to_dest-requires : goal.copy_to_dest-requires
copy_to_dest-requires g c =
    let now = g.F.Flash.holds c.spare_done.new.flash in
    let is =
    taken c.args.slot c.args.content.now (g.F.Flash.holds c.args.flash.now) now c.requires.content c.requires.used c.requires.ready
    c.in_ok-spare_done.ensures.opened in
    record {
      size = c.spare_done.ensures.same_size ∙ c.requires.size;
      content = c.requires.content;
      pending = taken_pending c.args.slot c.args.content.now now is;
      used = taken_used c.args.slot c.args.content.now now is;
      same = taken_same c.args.slot c.args.content.now now is;
    }

pub dest_done-requires : goal.dest_done-requires
dest_done-requires g c =
    let now = g.F.Flash.holds c.spare_done.new.flash in
    let next = g.F.Flash.holds c.copy_to_dest.new.flash in
    let is =
    taken c.args.slot c.args.content.now (g.F.Flash.holds c.args.flash.now) now c.requires.content c.requires.used c.requires.ready
    c.in_ok-spare_done.ensures.opened in
    let at = done c.args.slot c.args.content.now now next is c.in_ok-copy_to_dest.ensures.copied in
    record {
      size = c.copy_to_dest.ensures.same_size ∙ c.spare_done.ensures.same_size ∙ c.requires.size;
      slot = c.requires.slot;
      pending = done_pending c.args.slot c.args.content.now next at;
      copied = done_equal c.args.slot c.args.content.now next at;
    }

pub returns-clause-written : goal.returns-clause-written
returns-clause-written g c =
    let old = g.F.Flash.holds c.args.flash.now in
    let now = g.F.Flash.holds c.spare_done.new.flash in
    let next = g.F.Flash.holds c.copy_to_dest.new.flash in
    let is = taken c.args.slot c.args.content.now old now c.requires.content c.requires.used c.requires.ready c.in_ok-spare_done.ensures.opened in
    on_ok_weaker c.dest_done.result
    (written c.args.slot c.args.content.now old next (g.F.Flash.holds c.dest_done.new.flash)
    (told_further old now next (told_still (IsWorkLeft (Pending c.args.slot)) old now c.in_ok-spare_done.ensures.opened)
    (told_still (IsCopied c.args.content.now) now next c.in_ok-copy_to_dest.ensures.copied))
    (done c.args.slot c.args.content.now now next is c.in_ok-copy_to_dest.ensures.copied))
    c.dest_done.ensures.opened

pub returns-clause-at_any_moment : goal.returns-clause-at_any_moment
returns-clause-at_any_moment g c =
    taken_moments c.args.slot c.args.content.now _ _ _
    (taking_moments c.args.slot c.args.content.now _ _ c.requires.content c.requires.ready c.spare_done.ensures.at_any_moment)
    (taken c.args.slot c.args.content.now _ _ c.requires.content c.requires.used c.requires.ready c.in_ok-spare_done.ensures.opened)
    (content_moments _ _ _ c.copy_to_dest.ensures.at_any_moment c.dest_done.ensures.at_any_moment)

pub returns-in_err-spare_done-clause-at_any_moment : goal.returns-in_err-spare_done-clause-at_any_moment
returns-in_err-spare_done-clause-at_any_moment g c =
    taking_moments c.args.slot c.args.content.now _ _ c.requires.content c.requires.ready c.spare_done.ensures.at_any_moment

pub returns-in_err-copy_to_dest-clause-at_any_moment : goal.returns-in_err-copy_to_dest-clause-at_any_moment
returns-in_err-copy_to_dest-clause-at_any_moment g c =
    taken_moments c.args.slot c.args.content.now _ _ _
    (taking_moments c.args.slot c.args.content.now _ _ c.requires.content c.requires.ready c.spare_done.ensures.at_any_moment)
    (taken c.args.slot c.args.content.now _ _ c.requires.content c.requires.used c.requires.ready c.in_ok-spare_done.ensures.opened)
    c.copy_to_dest.ensures.at_any_moment
