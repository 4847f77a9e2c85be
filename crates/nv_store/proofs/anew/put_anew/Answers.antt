use Rattle.std.proofs.Common.{◌≡◌, ◌<◌, refl, subst, sym, OnOk, OnErr, IfErr, Result, Ok, Err}
use Rattle.region_compact.specs.Compacted.{size_after}
use Rattle.region_compact.specs.declared.no_room.NoRoom.{NoRoom}
use Rattle.region_compact.specs.declared.replace.Replace.TheVariants.{Put}
use Rattle.var_types.specs.Stores.{store_region}
use Rattle.var_region.specs.NewRecord.{AreValues, new_key, new_variable}
use Rattle.nv_store.specs.Anew.{HasRoom, anew_bytes, room_in}
use Rattle.nv_store.specs.Changes.{IsPut}
use Rattle.nv_store.specs.Rooms.{IsNoRoom}
use Rattle.nv_store.proofs.Needed.{size_needed}
use Rattle.nv_store.proofs.Rewritten.{put_is}
use Rattle.nv_store.proofs.anew.put_anew.Goals as goal

pub returns-clause-put : goal.returns-clause-put
returns-clause-put c = by c.write_anew.result c.write_anew.ensures.bytes c.write_anew.ensures.fits c.write_anew.ensures.values
  where
    by : (r : Result (Unit {0}) NoRoom) → OnOk r (c.write_anew.new.into ≡ anew_bytes c.args.store c.args.bytes.now (Put c.args.new.now))
        → OnOk r (HasRoom c.args.store c.args.bytes.now (Put c.args.new.now)) → OnOk r (AreValues c.args.new.now)
        → OnOk r (IsPut c.args.store (new_key c.args.new.now) (new_variable c.args.new.now) c.args.bytes.now c.write_anew.new.into)
    by (Ok u) bytes fits values =
        subst (IsPut c.args.store (new_key c.args.new.now) (new_variable c.args.new.now) c.args.bytes.now) (sym bytes)
        (put_is c.args.store c.args.bytes.now c.args.new.now c.requires.first (record { can = c.requires.new; values = values }) c.requires.of_store fits)
    by (Err full) bytes fits values = tt

pub returns-clause-room : goal.returns-clause-room
returns-clause-room c = by c.write_anew.result c.write_anew.ensures.full c.write_anew.ensures.room
  where
    by : (r : Result (Unit {0}) NoRoom)
        → IfErr r (λ full. full ≡ record { need = size_after (store_region c.args.store c.args.bytes.now) (Put c.args.new.now); have = room_in c.args.store c.args.bytes.now })
        → OnErr r (room_in c.args.store c.args.bytes.now < size_after (store_region c.args.store c.args.bytes.now) (Put c.args.new.now))
        → IfErr r (λ full. IsNoRoom c.args.store c.args.bytes.now c.args.new.now full.need full.have)
    by (Ok u) full room = tt
    by (Err refusal) full room =
        subst (λ (f : NoRoom). IsNoRoom c.args.store c.args.bytes.now c.args.new.now f.need f.have) (sym full)
        (record {
          need = λ state is. size_needed state c.args.store c.args.bytes.now c.args.new.now is c.requires.of_store;
          have = refl;
          above = room;
        })
