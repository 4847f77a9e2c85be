use Rattle.std.proofs.Common.{ap, refl, subst, sym, ◌∙◌}
use Rattle.mm_writer.proofs.InMemory.{gone, gone_bytes, old_whole, removed_in, removed_is, removed_tail, twin_whole}
use Rattle.mm_writer.proofs.Written.{written_nowhere}
use Rattle.mm_writer.specs.declared.edit.Edit.TheVariants.{Remove}
use Rattle.mm_writer.specs.Edit.{IsEdited, edit_spans}
use Rattle.nv_store.specs.Places.{remove_spans}
use Rattle.nv_store.specs.Tidy.{IsTidy}
use Rattle.var_types.specs.declared.store.Store.TheVariants.{Volatile}
use Rattle.var_types.specs.Key.{key_of}
use Rattle.var_types.specs.Region.{tail_offset}
use Rattle.var_types.specs.Stores.{store_region}
use Rattle.mm_writer.proofs.in_memory.remove.Goals as goal

pub clear-requires : goal.clear-requires
clear-requires c =
    twin_whole (key_of c.args.guid.now c.args.name.now) c.args.bytes.now c.requires.tidy c.requires.there c.places_of-places.result c.places_of-places.ensures.places
    c.twin.result _ c.twin.ensures refl

pub clear-requires-2 : goal.clear-requires-2
clear-requires-2 c =
    old_whole (key_of c.args.guid.now c.args.name.now) c.args.bytes.now c.requires.tidy c.requires.there c.places_of-places.result c.places_of-places.ensures.places
    c.twin.result c.old.result c.twin.ensures c.old.ensures c.clear.new.bytes c.clear.ensures

pub returns-clause-edited : goal.returns-clause-edited
unfolding edit_spans
returns-clause-edited c =
    let key = key_of c.args.guid.now c.args.name.now in
    let a = c.args.bytes.now in
    subst (IsEdited Volatile (Remove c.args.guid.now c.args.name) a)
    (sym
    (gone_bytes key a c.requires.tidy c.requires.there c.places_of-places.result c.places_of-places.ensures.places c.twin.result c.old.result c.twin.ensures
    c.old.ensures c.clear.new.bytes c.clear-2.new.bytes c.clear.ensures c.clear-2.ensures))
    (record {
      map = (removed_is key a c.requires.tidy c.requires.there).map;
      written = written_nowhere (remove_spans Volatile a key) a (gone key a c.requires.tidy c.requires.there) (removed_in key a c.requires.tidy c.requires.there);
    })

pub returns-clause-tidy : goal.returns-clause-tidy
returns-clause-tidy c =
    let key = key_of c.args.guid.now c.args.name.now in
    let a = c.args.bytes.now in
    subst (λ bytes. IsTidy (store_region Volatile bytes))
    (sym
    (gone_bytes key a c.requires.tidy c.requires.there c.places_of-places.result c.places_of-places.ensures.places c.twin.result c.old.result c.twin.ensures
    c.old.ensures c.clear.new.bytes c.clear-2.new.bytes c.clear.ensures c.clear-2.ensures))
    (removed_is key a c.requires.tidy c.requires.there).tidy

pub returns-clause-tail : goal.returns-clause-tail
returns-clause-tail c =
    let key = key_of c.args.guid.now c.args.name.now in
    let a = c.args.bytes.now in
    ap (λ bytes. tail_offset (store_region Volatile bytes))
    (gone_bytes key a c.requires.tidy c.requires.there c.places_of-places.result c.places_of-places.ensures.places c.twin.result c.old.result c.twin.ensures
    c.old.ensures c.clear.new.bytes c.clear-2.new.bytes c.clear.ensures c.clear-2.ensures)
    ∙ removed_tail key a c.requires.tidy c.requires.there
