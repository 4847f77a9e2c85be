use Rattle.std.proofs.lemmas.Result.{on_ok_weaker}
use Rattle.var_types.specs.declared.store.Store.TheVariants.{NonVolatile}
use Rattle.var_types.specs.Key.{key_of}
use Rattle.nv_store.proofs.Sequences.{removal_last, removed, removed_written}
use Rattle.nv_store.proofs.in_place.remove_in_place.Goals as goal

pub delete_last-requires-clause-last : goal.delete_last-requires-clause-last
delete_last-requires-clause-last g c =
    removal_last NonVolatile (key_of c.args.guid.now c.args.name.now) c.args.bytes.now c.drop_twin.new.bytes c.requires.tidy c.requires.there
    c.in_ok-drop_twin.ensures.dropped

pub returns-clause-removed : goal.returns-clause-removed
returns-clause-removed g c =
    on_ok_weaker c.delete_last.result
    (removed NonVolatile (key_of c.args.guid.now c.args.name.now) c.args.bytes.now c.drop_twin.new.bytes c.delete_last.new.bytes c.requires.tidy
    c.in_ok-drop_twin.ensures.dropped)
    c.delete_last.ensures.deleted

pub returns-clause-written : goal.returns-clause-written
returns-clause-written g c =
    on_ok_weaker c.delete_last.result
    (removed_written NonVolatile (key_of c.args.guid.now c.args.name.now) c.args.bytes.now c.drop_twin.new.bytes c.delete_last.new.bytes c.requires.tidy
    c.in_ok-drop_twin.ensures.dropped)
    c.delete_last.ensures.deleted
