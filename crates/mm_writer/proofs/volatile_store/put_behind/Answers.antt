use Rattle.mm_writer.proofs.Fitting.{fits_is}
use Rattle.var_types.specs.declared.store.Store.TheVariants.{Volatile}
use Rattle.var_types.specs.Stores.{store_region}
use Rattle.mm_writer.proofs.volatile_store.put_behind.Goals as goal

pub put_at-requires-clause-fits : goal.put_at-requires-clause-fits
put_at-requires-clause-fits c = fits_is (store_region Volatile c.args.bytes.now) c.args.new.now (record { can = c.requires.can.can; values = c.requires.values }) c.requires.fits
