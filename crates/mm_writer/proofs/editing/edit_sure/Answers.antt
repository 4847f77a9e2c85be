use Rattle.std.proofs.Common.{ap, sym, subst, ◌∙◌, Err}
use Rattle.mm_writer.proofs.Written.{written_nowhere}
use Rattle.mm_writer.specs.declared.edit.Edit.{Edit}
use Rattle.mm_writer.specs.Edit.{CanEdit, IsEdited, edit_spans}
use Rattle.nv_store.specs.Places.{remove_spans}
use Rattle.var_types.specs.declared.store.Store.TheVariants.{NonVolatile}
use Rattle.var_types.specs.Key.{key_of}
use Rattle.mm_writer.proofs.editing.edit_sure.Goals as goal

pub returns-in-Ok-clause-edited : goal.returns-in-Ok-clause-edited
unfolding edit_spans
returns-in-Ok-clause-edited g c =
    subst (λ (e : Edit). IsEdited NonVolatile e c.args.store.now.1.0 c.put.new.self.1.0) (sym c.in-Put.is)
    (record { map = c.in-Ok.ensures.put.map; written = c.in-Ok.ensures.written })

pub returns-in-Err-NoRoom-clause-failed : goal.returns-in-Err-NoRoom-clause-failed
returns-in-Err-NoRoom-clause-failed g c =
    absurd
    ((subst (CanEdit NonVolatile c.args.store.now.1.0) c.in-Put.is c.requires.can).room c.in-Err-NoRoom.field-0-0 c.in-Err-NoRoom.field-0-1
    (c.put.ensures.room c.in-Err-NoRoom.field-0-0 c.in-Err-NoRoom.field-0-1 (c.in-Err-NoRoom.is ∙ ap Err c.in-Err-NoRoom.field-0-is)))

pub returns-in-Err-NoRoom-clause-cause : goal.returns-in-Err-NoRoom-clause-cause
returns-in-Err-NoRoom-clause-cause g c =
    absurd
    ((subst (CanEdit NonVolatile c.args.store.now.1.0) c.in-Put.is c.requires.can).room c.in-Err-NoRoom.field-0-0 c.in-Err-NoRoom.field-0-1
    (c.put.ensures.room c.in-Err-NoRoom.field-0-0 c.in-Err-NoRoom.field-0-1 (c.in-Err-NoRoom.is ∙ ap Err c.in-Err-NoRoom.field-0-is)))

pub returns-in-Ok-remove-clause-edited : goal.returns-in-Ok-remove-clause-edited
unfolding edit_spans
returns-in-Ok-remove-clause-edited g c =
    let key = key_of c.in-Remove.guid c.in-Remove.name.now in
    let old = c.args.store.now.1.0 in
    subst (λ (e : Edit). IsEdited NonVolatile e old c.remove.new.self.1.0) (sym c.in-Remove.is)
    (record {
      map = c.in-Ok-remove.ensures.removed.map;
      written = written_nowhere (remove_spans NonVolatile old key) old c.remove.new.self.1.0 c.in-Ok-remove.ensures.written;
    })
