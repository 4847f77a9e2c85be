use Rattle.std.proofs.Common.{ap, ◌∙◌, arith, length, Err}
use Rattle.std.proofs.lemmas.List.{with_items_is}
use Rattle.var_region.specs.NewRecord.{new_key, new_variable}
use Rattle.var_types.specs.declared.store.Store.TheVariants.{NonVolatile}
use Rattle.var_types.specs.Stores.{map_in}
use Rattle.nv_store.specs.Outcome.{with_put}
use Rattle.nv_store.proofs.Holdings.{held_doubt}
use Rattle.nv_store.proofs.store.NvStore.put.Goals as goal

pub invariant_of-self-in-Err-Device : goal.invariant_of-self-in-Err-Device
invariant_of-self-in-Err-Device g c =
    let k = new_key c.args.new.now in
    let v = new_variable c.args.new.now in
    let scratch = with_items_is c.self.inside.scratch c.write_put.new.scratch (omega arith) in
    held_doubt (with_put k v) _ _ _ _ c.self.inside.mirror.items c.self.inside.scratch.items _ c.of.result.value.items c.self.inside.slots _
    (ap (λ s. s.1.1) c.self.view_is ∙ c.requires.sure) c.self.invariant c.write_put.ensures.same_size (ap length scratch ∙ omega arith)
    (ap (map_in NonVolatile) (ap (λ s. s.items) c.of.ensures ∙ scratch) ∙ (c.in-Err-Device.ensures.after (ap Err c.in-Err-Device.field-0-is)).map
    ∙ ap (λ m. with_put k v (map_in NonVolatile m)) c.deref.ensures.value)
    c.write_put.ensures.at_any_moment.now
