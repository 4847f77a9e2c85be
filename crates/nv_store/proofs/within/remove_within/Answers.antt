use Rattle.var_types.specs.Key.{key_of}
use Rattle.nv_store.proofs.Sequences.{removal_last, removed, removed_written}
use Rattle.nv_store.proofs.within.remove_within.Goals as goal

pub drop_twin-requires-clause-few_twins : goal.drop_twin-requires-clause-few_twins
drop_twin-requires-clause-few_twins c = c.requires.tidy.single.in_transition (key_of c.args.guid.now c.args.name.now)

pub delete_last-requires-clause-last : goal.delete_last-requires-clause-last
delete_last-requires-clause-last c =
    removal_last c.args.store (key_of c.args.guid.now c.args.name.now) c.args.bytes.now c.drop_twin.new.bytes c.requires.tidy c.requires.there c.drop_twin.ensures

pub returns-clause-removed : goal.returns-clause-removed
returns-clause-removed c =
    removed c.args.store (key_of c.args.guid.now c.args.name.now) c.args.bytes.now c.drop_twin.new.bytes c.delete_last.new.bytes c.requires.tidy c.drop_twin.ensures
    c.delete_last.ensures

pub returns-clause-written : goal.returns-clause-written
returns-clause-written c =
    removed_written c.args.store (key_of c.args.guid.now c.args.name.now) c.args.bytes.now c.drop_twin.new.bytes c.delete_last.new.bytes c.requires.tidy c.drop_twin.ensures
    c.delete_last.ensures
