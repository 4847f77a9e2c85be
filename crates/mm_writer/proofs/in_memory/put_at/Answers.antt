use Rattle.std.proofs.Common.{◌+◌, ap, refl, subst, sym, ◌∙◌}
use Rattle.mm_writer.proofs.InMemory.{first_stands, last_bytes, last_stands, put_edits, put_is, put_tail, second_stands}
use Rattle.mm_writer.specs.declared.edit.Edit.TheVariants.{Put}
use Rattle.mm_writer.specs.Edit.{IsEdited}
use Rattle.nv_store.specs.Tidy.{IsTidy}
use Rattle.var_region.specs.NewRecord.{new_size}
use Rattle.var_types.specs.declared.store.Store.TheVariants.{Volatile}
use Rattle.var_types.specs.Region.{tail_offset}
use Rattle.var_types.specs.Room.{align4}
use Rattle.var_types.specs.Stores.{store_region}
use Rattle.mm_writer.proofs.in_memory.put_at.Goals as goal

pub clear-requires : goal.clear-requires
clear-requires c =
    first_stands c.args.new.now c.args.bytes.now c.requires.tidy c.requires.fits c.requires.of_store c.places_of-places.result c.places_of-places.ensures.places
    c.args.tail c.requires.tail c.twin.result _ c.twin.ensures refl

pub clear-requires-2 : goal.clear-requires-2
clear-requires-2 c =
    second_stands c.args.new.now c.args.bytes.now c.requires.tidy c.requires.fits c.requires.of_store c.places_of-places.result c.places_of-places.ensures.places
    c.args.tail c.requires.tail c.twin.result _ c.twin.ensures refl c.clear.new.bytes c.clear.ensures

pub clear-requires-3 : goal.clear-requires-3
clear-requires-3 c =
    last_stands c.args.new.now c.args.bytes.now c.requires.tidy c.requires.fits c.requires.of_store c.places_of-places.result c.places_of-places.ensures.places
    c.args.tail c.requires.tail c.twin.result c.old.result c.twin.ensures c.old.ensures c.clear.new.bytes c.clear-2.new.bytes c.append.new.bytes c.clear.ensures
    c.clear-2.ensures c.append.ensures.bytes

pub returns-clause-edited : goal.returns-clause-edited
returns-clause-edited c =
    subst (IsEdited Volatile (Put c.args.new.now) c.args.bytes.now)
    (sym
    (last_bytes c.args.new.now c.args.bytes.now c.requires.tidy c.requires.fits c.requires.of_store c.places_of-places.result c.places_of-places.ensures.places
    c.args.tail c.requires.tail c.twin.result c.old.result c.twin.ensures c.old.ensures c.clear.new.bytes c.clear-2.new.bytes c.append.new.bytes c.clear-3.new.bytes
    c.clear.ensures c.clear-2.ensures c.append.ensures.bytes c.clear-3.ensures))
    (put_edits c.args.new.now c.args.bytes.now c.requires.tidy c.requires.fits c.requires.of_store)

pub returns-clause-tidy : goal.returns-clause-tidy
returns-clause-tidy c =
    subst (λ bytes. IsTidy (store_region Volatile bytes))
    (sym
    (last_bytes c.args.new.now c.args.bytes.now c.requires.tidy c.requires.fits c.requires.of_store c.places_of-places.result c.places_of-places.ensures.places
    c.args.tail c.requires.tail c.twin.result c.old.result c.twin.ensures c.old.ensures c.clear.new.bytes c.clear-2.new.bytes c.append.new.bytes c.clear-3.new.bytes
    c.clear.ensures c.clear-2.ensures c.append.ensures.bytes c.clear-3.ensures))
    (put_is c.args.new.now c.args.bytes.now c.requires.tidy c.requires.fits c.requires.of_store).tidy

pub returns-clause-tail : goal.returns-clause-tail
returns-clause-tail c =
    ap (λ bytes. tail_offset (store_region Volatile bytes))
    (last_bytes c.args.new.now c.args.bytes.now c.requires.tidy c.requires.fits c.requires.of_store c.places_of-places.result c.places_of-places.ensures.places
    c.args.tail c.requires.tail c.twin.result c.old.result c.twin.ensures c.old.ensures c.clear.new.bytes c.clear-2.new.bytes c.append.new.bytes c.clear-3.new.bytes
    c.clear.ensures c.clear-2.ensures c.append.ensures.bytes c.clear-3.ensures)
    ∙ put_tail c.args.new.now c.args.bytes.now c.requires.tidy c.requires.fits c.requires.of_store
    ∙ ap (λ n. align4 (n + new_size c.args.new.now)) (sym c.requires.tail)
