use Rattle.nv_store.proofs.spans.size_of.Goals as goal

pub returns-clause-values : goal.returns-clause-values
returns-clause-values c = record { units = c.name_size.ensures.units; stamp = c.field_size.ensures.len; guid = c.field_size-2.ensures.len }
