use Rattle.std.proofs.Common.{ap, subst, sym, ◌∙◌}
use Rattle.var_types.specs.Placed.{placed}
use Rattle.var_types.specs.Region.{tail_offset}
use Rattle.var_types.specs.Stores.{store_region}
use Rattle.var_region.specs.NewRecord.{new_bytes, new_key, new_variable}
use Rattle.nv_store.specs.Places.{new_span}
use Rattle.nv_store.specs.Steps.{IsAdded}
use Rattle.nv_store.proofs.Appended.{appended_is}
use Rattle.nv_store.proofs.within.add_record.Goals as goal

pub returns : goal.returns
returns c =
    let new = c.args.new.now in
    let region = store_region c.args.store c.args.bytes.now in
    subst (IsAdded c.args.store (new_key new) (new_variable new) (new_span region new) c.args.bytes.now)
    (sym (c.append.ensures.bytes ∙ ap (λ n. placed n (new_bytes 0x3F new) c.args.bytes.now) (c.tail-at.ensures.offset ∙ ap tail_offset c.region_in.ensures)))
    (appended_is c.args.store c.args.bytes.now new c.requires.fits c.requires.of_store c.requires.none)
