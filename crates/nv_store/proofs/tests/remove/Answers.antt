use Rattle.std.proofs.Common.{[], ◌∷◌, sym, ap, ◌∙◌}
use Rattle.var_types.specs.declared.store.Store.TheVariants.{NonVolatile}
use Rattle.var_types.specs.Key.{key_of}
use Rattle.var_types.specs.Stores.{store_region}
use Rattle.nv_store.proofs.Tested.{found_there}
use Rattle.nv_store.proofs.tests.remove.Goals as goal

pub remove-requires-clause-there : goal.remove-requires-clause-there
remove-requires-clause-there g c =
    found_there c.find.result c.region_in.result (key_of c.guid-owner.result (65 ∷ [])) c.args.store.now.1.0 (sym c.is_some.ensures ∙ c.if-is_some.true)
    c.find.ensures.variable (c.region_in.ensures ∙ ap (store_region NonVolatile) c.mirror-2.ensures.bytes)
