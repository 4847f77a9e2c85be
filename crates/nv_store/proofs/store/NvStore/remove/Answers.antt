use Rattle.std.proofs.Common.{ap, sym, subst, ◌∙◌, arith, length}
use Rattle.std.proofs.lemmas.List.{with_items_is}
use Rattle.std.specs.Prelude.{IfSome}
use Rattle.var_types.specs.declared.store.Store.TheVariants.{NonVolatile}
use Rattle.var_types.specs.Key.{key_of}
use Rattle.var_types.specs.Stores.{map_in}
use Rattle.nv_store.specs.Changes.{IsSameStore}
use Rattle.nv_store.specs.Mirror.{IsHeld, IsMirroredAt}
use Rattle.nv_store.specs.Outcome.{without}
use Rattle.nv_store.proofs.Holdings.{held_at, held_doubt, held_removed}
use Rattle.nv_store.proofs.store.NvStore.remove.Goals as goal

pub invariant_of-self : goal.invariant_of-self
invariant_of-self g c =
    let old = g.F.Flash.holds c.self.inside.flash in
    let mirror = c.self.inside.mirror.items in
    let room = c.self.inside.scratch.items in
    let sure = ap (λ s. s.1.1) c.self.view_is ∙ c.requires.sure in
    let held = subst (λ d. IsHeld (g.F.Flash.size c.self.inside.flash) old mirror room c.self.inside.slots d) sure c.self.invariant in
    let at = subst (λ m. IfSome old (IsMirroredAt m c.self.inside.slots)) (sym c.deref.ensures.value) (held_at _ old mirror room c.self.inside.slots held) in
    let scratch = with_items_is c.self.inside.scratch c.write_removal.new.scratch (omega arith) in
    held_removed _ _ _ _ mirror room c.write_removal.new.scratch _ _ c.self.inside.slots _ sure c.self.invariant c.write_removal.ensures.same_size
    (ap (λ s. s.items) c.swap.ensures.x_after ∙ scratch) (ap (λ s. length s.items) c.swap.ensures.y_after ∙ c.self.invariant.store.len)
    (subst (λ m. IsSameStore NonVolatile m c.write_removal.new.scratch) c.deref.ensures.value c.in-Ok.ensures.removed.same) c.in-Ok.ensures.removed.tidy
    (c.in-Ok.ensures.mirrored c.self.inside.slots at)

pub invariant_of-self-in-Err : goal.invariant_of-self-in-Err
invariant_of-self-in-Err g c =
    let k = key_of c.args.guid.now c.args.name.now in
    let scratch = with_items_is c.self.inside.scratch c.write_removal.new.scratch (omega arith) in
    held_doubt (without k) _ _ _ _ c.self.inside.mirror.items c.self.inside.scratch.items _ c.of.result.value.items c.self.inside.slots _
    (ap (λ s. s.1.1) c.self.view_is ∙ c.requires.sure) c.self.invariant c.write_removal.ensures.same_size (ap length scratch ∙ omega arith)
    (ap (map_in NonVolatile) (ap (λ s. s.items) c.of.ensures ∙ scratch) ∙ c.in-Err.ensures.after.map
    ∙ ap (λ m. without k (map_in NonVolatile m)) c.deref.ensures.value)
    c.write_removal.ensures.at_any_moment.now
