use Rattle.std.proofs.Common.{sym, ◌∙◌}
use Rattle.mm_writer.proofs.Doubts.{both_moments, heal_moments, healed_moments}
use Rattle.mm_writer.specs.Edit.{edited}
use Rattle.mm_writer.proofs.editing.edit_surely.Goals as goal

pub returns-in-Ok-clause-at_any_moment : goal.returns-in-Ok-clause-at_any_moment
returns-in-Ok-clause-at_any_moment g c =
    let old = c.args.store.now in
    let healed = c.end_doubt.new.store in
    both_moments old.1 (sym c.in_doubt.ensures.doubt ∙ c.if-not-in_doubt.false) old.0 healed.0 c.end_doubt.ensures.told c.end_doubt.ensures.at_any_moment (edited c.args.edit.now) healed.1 c.edit_undoubted-in-Ok.new.store.0
    c.end_doubt.ensures.mirror c.in-Ok.ensures.sure c.edit_undoubted-in-Ok.ensures.at_any_moment

pub returns-in-Err-clause-unhealed : goal.returns-in-Err-clause-unhealed
returns-in-Err-clause-unhealed g c = λ _.
    let old = c.args.store.now in
    let new = c.end_doubt.new.store in
    record {
      some = sym c.in_doubt.ensures.doubt ∙ c.if-not-in_doubt.false;
      same = c.in-Err.ensures.same;
      at_any_moment = heal_moments old.1 (sym c.in_doubt.ensures.doubt ∙ c.if-not-in_doubt.false) old.0 new.0 c.end_doubt.ensures.told c.end_doubt.ensures.at_any_moment;
    }

pub returns-in-Err-clause-at_any_moment : goal.returns-in-Err-clause-at_any_moment
returns-in-Err-clause-at_any_moment g c =
    let old = c.args.store.now in
    let new = c.end_doubt.new.store in
    healed_moments old.1 (sym c.in_doubt.ensures.doubt ∙ c.if-not-in_doubt.false) old.0 new.0 c.end_doubt.ensures.told c.end_doubt.ensures.at_any_moment (edited c.args.edit.now)
