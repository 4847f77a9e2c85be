use Rattle.var_region.specs.NewRecord.{new_key}
use Rattle.nv_store.proofs.Sequences.{few_added, few_again, few_twins, no_twin, put_done, put_written, still_fits}
use Rattle.nv_store.proofs.within.put_within.Goals as goal

pub drop_twin-requires-clause-few_twins : goal.drop_twin-requires-clause-few_twins
drop_twin-requires-clause-few_twins c = c.requires.tidy.single.in_transition (new_key c.args.new.now)

pub outdate-requires-clause-added : goal.outdate-requires-clause-added
outdate-requires-clause-added c = few_added c.args.store c.args.new.now c.args.bytes.now c.drop_twin.new.bytes c.drop_twin.new.bytes c.drop_twin.new.bytes c.requires.tidy c.drop_twin.ensures

pub outdate-requires-clause-few_twins : goal.outdate-requires-clause-few_twins
outdate-requires-clause-few_twins c = few_twins c.args.store c.args.new.now c.args.bytes.now c.drop_twin.new.bytes c.drop_twin.new.bytes c.drop_twin.new.bytes c.requires.tidy c.drop_twin.ensures

pub outdate-requires-clause-no_twin : goal.outdate-requires-clause-no_twin
outdate-requires-clause-no_twin c = no_twin c.args.store c.args.new.now c.args.bytes.now c.drop_twin.new.bytes c.drop_twin.new.bytes c.drop_twin.new.bytes c.requires.tidy c.drop_twin.ensures

pub add_record-requires-clause-fits : goal.add_record-requires-clause-fits
add_record-requires-clause-fits c =
    still_fits c.args.store c.args.new.now c.args.bytes.now c.drop_twin.new.bytes c.outdate.new.bytes c.outdate.new.bytes c.requires.tidy c.drop_twin.ensures c.outdate.ensures c.requires.fits

pub add_record-requires-clause-none : goal.add_record-requires-clause-none
add_record-requires-clause-none c = c.outdate.ensures.added

pub drop_twin-requires-2-clause-few_twins : goal.drop_twin-requires-2-clause-few_twins
drop_twin-requires-2-clause-few_twins c =
    few_again c.args.store c.args.new.now c.args.bytes.now c.drop_twin.new.bytes c.outdate.new.bytes c.add_record.new.bytes c.requires.tidy c.drop_twin.ensures c.outdate.ensures c.add_record.ensures

pub returns-clause-put : goal.returns-clause-put
returns-clause-put c =
    put_done c.args.store c.args.new.now c.args.bytes.now c.drop_twin.new.bytes c.outdate.new.bytes c.add_record.new.bytes c.drop_twin-2.new.bytes
    c.requires.tidy c.requires.fits c.drop_twin.ensures c.outdate.ensures c.add_record.ensures c.drop_twin-2.ensures

pub returns-clause-written : goal.returns-clause-written
returns-clause-written c =
    put_written c.args.store c.args.new.now c.args.bytes.now c.drop_twin.new.bytes c.outdate.new.bytes c.add_record.new.bytes c.drop_twin-2.new.bytes
    c.requires.tidy c.requires.fits c.drop_twin.ensures c.outdate.ensures c.add_record.ensures c.drop_twin-2.ensures
