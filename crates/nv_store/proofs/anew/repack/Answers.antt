use Rattle.std.proofs.Common.{◌≡◌, ◌<◌, arith, subst, sym, OnOk, OnErr, Result, Ok, Err}
use Rattle.region_compact.specs.Compacted.{size_after}
use Rattle.region_compact.specs.declared.no_room.NoRoom.{NoRoom}
use Rattle.region_compact.specs.declared.replace.Replace.TheVariants.{None as Keep}
use Rattle.var_types.specs.Stores.{store_region}
use Rattle.nv_store.specs.Anew.{HasRoom, anew_bytes, room_in}
use Rattle.nv_store.specs.Changes.{IsRepacked}
use Rattle.nv_store.proofs.Rewritten.{always_room, repacked_is}
use Rattle.nv_store.proofs.anew.repack.Goals as goal

pub returns : goal.returns
returns c = by c.write_anew.result c.write_anew.ensures.bytes c.write_anew.ensures.room
  where
    fits : HasRoom c.args.store c.args.bytes.now Keep
    fits = always_room c.args.store c.args.bytes.now c.requires.first c.requires.even

    by : (r : Result (Unit {0}) NoRoom) → OnOk r (c.write_anew.new.into ≡ anew_bytes c.args.store c.args.bytes.now Keep)
        → OnErr r (room_in c.args.store c.args.bytes.now < size_after (store_region c.args.store c.args.bytes.now) Keep)
        → IsRepacked c.args.store c.args.bytes.now c.write_anew.new.into
    by (Ok u) bytes room = subst (IsRepacked c.args.store c.args.bytes.now) (sym bytes) (repacked_is c.args.store c.args.bytes.now c.requires.first fits)
    by (Err full) bytes room = let fit = fits in absurd (omega arith)
