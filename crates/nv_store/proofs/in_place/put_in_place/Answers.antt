use Rattle.std.proofs.lemmas.Result.{on_ok_weaker}
use Rattle.var_types.specs.declared.store.Store.TheVariants.{NonVolatile}
use Rattle.nv_store.proofs.Sequences.{put_done, put_written}
use Rattle.nv_store.proofs.in_place.put_in_place.Goals as goal

pub returns-clause-put : goal.returns-clause-put
returns-clause-put g c =
    on_ok_weaker c.drop_twin-2.result
    (put_done NonVolatile c.args.new.now c.args.bytes.now c.drop_twin.new.bytes c.outdate.new.bytes c.add_record.new.bytes c.drop_twin-2.new.bytes
    c.requires.tidy c.requires.fits c.in_ok-drop_twin.ensures.dropped c.in_ok-outdate.ensures.outdated c.in_ok-add_record.ensures.added)
    c.drop_twin-2.ensures.dropped

pub returns-clause-written : goal.returns-clause-written
returns-clause-written g c =
    on_ok_weaker c.drop_twin-2.result
    (put_written NonVolatile c.args.new.now c.args.bytes.now c.drop_twin.new.bytes c.outdate.new.bytes c.add_record.new.bytes c.drop_twin-2.new.bytes
    c.requires.tidy c.requires.fits c.in_ok-drop_twin.ensures.dropped c.in_ok-outdate.ensures.outdated c.in_ok-add_record.ensures.added)
    c.drop_twin-2.ensures.dropped
