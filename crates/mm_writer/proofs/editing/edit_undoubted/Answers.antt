use Rattle.mm_writer.proofs.Doubts.{sure_moments}
use Rattle.mm_writer.specs.Edit.{edited}
use Rattle.mm_writer.proofs.editing.edit_undoubted.Goals as goal

pub returns-in-Ok-clause-at_any_moment : goal.returns-in-Ok-clause-at_any_moment
returns-in-Ok-clause-at_any_moment g c =
    sure_moments (edited c.args.edit.now) c.args.store.now.1 c.args.store.now.0 c.edit_sure.new.store.0 (c.mirror-mirror.ensures.kept c.requires.sure)
    c.edit_sure.ensures.at_any_moment

pub returns-in-Err-clause-at_any_moment : goal.returns-in-Err-clause-at_any_moment
returns-in-Err-clause-at_any_moment g c =
    sure_moments (edited c.args.edit.now) c.args.store.now.1 c.args.store.now.0 c.edit_sure.new.store.0 (c.mirror-mirror.ensures.kept c.requires.sure)
    c.edit_sure.ensures.at_any_moment
