use Rattle.mm_writer.specs.Edit.{edit_spans}
use Rattle.nv_store.proofs.Keeps.{anew_pasted}
use Rattle.var_types.specs.declared.store.Store.TheVariants.{Volatile}
use Rattle.mm_writer.proofs.volatile_store.put_compacted.Goals as goal

pub returns-in-Ok-clause-edited : goal.returns-in-Ok-clause-edited
unfolding edit_spans
returns-in-Ok-clause-edited c = record {
  map = c.in-Ok.ensures.put.map;
  written = record {
    len = c.in-Ok.ensures.put.same.len;
    pasted = anew_pasted Volatile c.args.new.now c.args.bytes.now c.put_anew.new.into c.in-Ok.ensures.put.same.len c.requires.full;
  };
}

pub returns-in-Err-clause-edited : goal.returns-in-Err-clause-edited
returns-in-Err-clause-edited c = absurd (c.requires.can.room c.in-Err.field-0.need c.in-Err.field-0.have c.in-Err.ensures.room)

pub returns-in-Err-clause-tidy : goal.returns-in-Err-clause-tidy
returns-in-Err-clause-tidy c = absurd (c.requires.can.room c.in-Err.field-0.need c.in-Err.field-0.have c.in-Err.ensures.room)

pub returns-in-Err-clause-tail : goal.returns-in-Err-clause-tail
returns-in-Err-clause-tail c = absurd (c.requires.can.room c.in-Err.field-0.need c.in-Err.field-0.have c.in-Err.ensures.room)
