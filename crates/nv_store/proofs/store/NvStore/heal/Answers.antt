use Rattle.std.proofs.Common.{ap, sym, subst, ◌∙◌, arith, length, IsOk, take, ◌≡◌}
use Rattle.std.proofs.lemmas.List.{with_items_is}
use Rattle.flash_dev.specs.Geometry.{geometry_of}
use Rattle.flash_dev.specs.Rules.{Leaves}
use Rattle.var_types.specs.declared.store.Store.TheVariants.{NonVolatile}
use Rattle.var_types.specs.Kept.{IsContentOr, kept}
use Rattle.var_types.specs.Stores.{map_in}
use Rattle.nv_store.proofs.Holdings.{healed_kept, held_first, held_still}
use Rattle.nv_store.proofs.Keeps.{accepted_used}
use Rattle.nv_store.proofs.store.NvStore.heal.Goals as goal

pub restore-requires-clause-used : goal.restore-requires-clause-used
restore-requires-clause-used g c =
    let same = c.deref.ensures.value in
    accepted_used c.deref.result.now (ap length same ∙ c.self.invariant.store.len)
    (subst (λ m. IsOk (geometry_of (take 100 m))) (sym same) c.self.invariant.store.headers)

pub invariant_of-self-then-not-self : goal.invariant_of-self-then-not-self
invariant_of-self-then-not-self g c =
    let scratch = with_items_is c.self.inside.scratch c.restore.new.scratch (omega arith) in
    held_first _ _ _ _ c.self.inside.mirror.items c.self.inside.scratch.items _ c.of.result.value.items c.self.inside.slots c.self.inside.is_in_doubt
    c.self.inside.after.value.items c.if-not-self.true c.self.invariant c.restore.ensures.same_size (ap length scratch ∙ omega arith)
    (ap (λ s. s.items) c.of.ensures)
    (subst (λ m. Leaves (IsContentOr m) (g.F.Flash.holds c.self.inside.flash) (g.F.Flash.holds c.restore.new.flash)) c.deref.ensures.value
    c.restore.ensures.at_any_moment.now)

pub invariant_of-self-else-not-self : goal.invariant_of-self-else-not-self
invariant_of-self-else-not-self g c =
    let scratch = with_items_is c.self.inside.scratch c.restore.new.scratch (omega arith) in
    held_still _ _ _ _ c.self.inside.mirror.items c.self.inside.scratch.items _ c.self.inside.slots c.self.inside.is_in_doubt
    c.self.inside.after.value.items c.if-not-self.false c.self.invariant c.restore.ensures.same_size (ap length scratch ∙ omega arith)
    (subst (λ m. Leaves (IsContentOr m) (g.F.Flash.holds c.self.inside.flash) (g.F.Flash.holds c.restore.new.flash)) c.deref.ensures.value
    c.restore.ensures.at_any_moment.now)

pub returns-in-Ok-clause-kept : goal.returns-in-Ok-clause-kept
returns-in-Ok-clause-kept g c =
    subst (λ s. Leaves (λ x left. kept left ≡ map_in NonVolatile s.1.0) (g.F.Flash.holds s.0) (g.F.Flash.holds c.restore.new.flash)) c.self.view_is
    (subst (λ m. Leaves (λ x left. kept left ≡ map_in NonVolatile m) (g.F.Flash.holds c.self.inside.flash) (g.F.Flash.holds c.restore.new.flash))
    c.deref.ensures.value
    (healed_kept _ c.deref.result.now c.in-Ok.slots _ _ c.restore.ensures.at_any_moment.now c.in-Ok.ensures.mirrored))
