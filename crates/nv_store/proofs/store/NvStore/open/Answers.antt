use Rattle.std.proofs.Common.{ap, sym, subst, ◌∙◌, arith, refl, length, take, ◌≡◌, IfSome}
use Rattle.std.proofs.lemmas.List.{with_items_is}
use Rattle.var_types.specs.declared.store.Store.TheVariants.{NonVolatile}
use Rattle.var_types.specs.Kept.{content, kept}
use Rattle.var_types.specs.Stores.{map_in}
use Rattle.nv_store.proofs.Holdings.{held_opened, refused_by_size}
use Rattle.nv_store.proofs.store.NvStore.open.Goals as goal

pub returns-then-have-ne-IMAGE_BYTES-clause-refused : goal.returns-then-have-ne-IMAGE_BYTES-clause-refused
returns-then-have-ne-IMAGE_BYTES-clause-refused g c =
    λ by_image.
    refused_by_size c.len-have.result _ (g.F.Flash.holds c.args.flash) c.len-have.ensures c.if-have-ne-IMAGE_BYTES.true (g.met.F.Flash.sized c.args.flash)

pub invariant_of-result : goal.invariant_of-result
invariant_of-result g c =
    let mirror = with_items_is c.args.mirror c.open_volume.new.mirror (omega arith) in
    let scratch = with_items_is c.args.scratch c.open_volume.new.scratch (omega arith) in
    held_opened _ _ _ _ c.open_volume.new.mirror _ c.in-Ok.slots mirror c.open_volume.ensures.same_size
    (sym c.len-have.ensures ∙ c.if-have-ne-IMAGE_BYTES.false) (omega arith) (ap length scratch ∙ omega arith) c.in-Ok.ensures.valid
    c.in-Ok.ensures.tidy c.in-Ok.ensures.slots c.in-Ok.ensures.mirrored

pub returns-in-Ok-clause-store : goal.returns-in-Ok-clause-store
returns-in-Ok-clause-store g c = ((invariant_of-result g c).store, refl)

pub returns-in-Ok-clause-map : goal.returns-in-Ok-clause-map
returns-in-Ok-clause-map g c =
    let mirror = with_items_is c.args.mirror c.open_volume.new.mirror (omega arith) in
    subst (λ m. IfSome (g.F.Flash.holds c.args.flash) (λ image. map_in NonVolatile m ≡ kept image)) (sym mirror) c.in-Ok.ensures.map

pub returns-in-Ok-clause-headers : goal.returns-in-Ok-clause-headers
returns-in-Ok-clause-headers g c =
    let mirror = with_items_is c.args.mirror c.open_volume.new.mirror (omega arith) in
    subst (λ m. IfSome (g.F.Flash.holds c.args.flash) (λ image. take 100 m ≡ take 100 (content image))) (sym mirror) c.in-Ok.ensures.headers
