use Rattle.std.proofs.Common.{◌≡◌, ℕ, ◌-◌, ◌<◌, List, ◌++◌, length, take, drop, replicate, sym, ap, ◌∙◌, arith, length-drop, take-append-drop}
use Rattle.var_types.specs.declared.store.Store.{Store}
use Rattle.var_types.specs.Region.{Region}
use Rattle.var_types.specs.Stores.{first_offset, store_region}
use Rattle.region_compact.specs.Compacted.{compacted, size_after}
use Rattle.region_compact.specs.declared.no_room.NoRoom.{NoRoom}
use Rattle.region_compact.specs.declared.replace.Replace.{Replace}
use Rattle.nv_store.specs.Anew.{anew_bytes, room_in}
use Rattle.nv_store.proofs.Rewritten.{IsFull, was_done, was_full}
use Rattle.nv_store.proofs.anew.write_anew.Goals as goal

-- the room is that of the bytes behind the first ones
room_is : (n first len : ℕ) (into : List ℕ) → n ≡ first → length into ≡ len → length (drop n into) ≡ len - first
room_is n first len into e size = length-drop n into ∙ omega arith

pub returns-in-Ok-clause-bytes : goal.returns-in-Ok-clause-bytes
unfolding anew_bytes
returns-in-Ok-clause-bytes c =
    let bytes = c.args.bytes.now in
    let region = store_region c.args.store bytes in
    let n = c.first_offset-first.result in
    let done = was_done c.region_in-region.result c.args.replace (drop n c.args.into.now) (drop n c.compact_behind.new.into) c.in-Ok.field-0 c.compact_behind.result c.in-Ok.is c.compact_behind.ensures.done in
    let room = room_is n (first_offset c.args.store) (length bytes) c.args.into.now c.first_offset-first.ensures c.requires.into in
    c.write_front.ensures
    ∙ (λ i. take (c.first_offset-first.ensures i) bytes ++ done.bytes i)
    ∙ ap (λ (r : Region). take (first_offset c.args.store) bytes ++ (compacted r c.args.replace ++ replicate (length (drop n c.args.into.now) - size_after r c.args.replace) 0xFF)) c.region_in-region.ensures
    ∙ ap (λ m. take (first_offset c.args.store) bytes ++ (compacted region c.args.replace ++ replicate (m - size_after region c.args.replace) 0xFF)) room

pub returns-in-Ok-clause-fits : goal.returns-in-Ok-clause-fits
returns-in-Ok-clause-fits c =
    let n = c.first_offset-first.result in
    let done = was_done c.region_in-region.result c.args.replace (drop n c.args.into.now) (drop n c.compact_behind.new.into) c.in-Ok.field-0 c.compact_behind.result c.in-Ok.is c.compact_behind.ensures.done in
    let room = room_is n (first_offset c.args.store) (length c.args.bytes.now) c.args.into.now c.first_offset-first.ensures c.requires.into in
    let fits = done.fits in
    let size : size_after c.region_in-region.result c.args.replace ≡ size_after (store_region c.args.store c.args.bytes.now) c.args.replace =
    ap (λ (r : Region). size_after r c.args.replace) c.region_in-region.ensures in
    omega arith

module _ (store : Store) (bytes into left : List ℕ) (n : ℕ) (replace : Replace) (region : Region) (refusal : NoRoom) (place : n ≡ first_offset store)
    (size : length into ≡ length bytes) (is : region ≡ store_region store bytes) (w : IsFull region replace (drop n into) (drop n left) refusal)
    (front : take n left ≡ take n into) where
  size_is : size_after region replace ≡ size_after (store_region store bytes) replace
  size_is = ap (λ (r : Region). size_after r replace) is

  room : length (drop n into) ≡ room_in store bytes
  room = room_is n (first_offset store) (length bytes) into place size

  full_is : refusal ≡ record { need = size_after (store_region store bytes) replace; have = room_in store bytes }
  full_is = w.full ∙ (λ i. record { need = size_is i; have = room i })

  room_less : room_in store bytes < size_after (store_region store bytes) replace
  room_less = let less = w.room in let e = size_is in let f = room in omega arith

  same_is : left ≡ into
  same_is = sym (take-append-drop n left) ∙ (λ i. front i ++ w.same i) ∙ take-append-drop n into

pub returns-in-Err-clause-full : goal.returns-in-Err-clause-full
returns-in-Err-clause-full c =
    let n = c.first_offset-first.result in
    full_is c.args.store c.args.bytes.now c.args.into.now c.compact_behind.new.into n c.args.replace c.region_in-region.result c.in-Err.full c.first_offset-first.ensures
    c.requires.into c.region_in-region.ensures
    (was_full c.region_in-region.result c.args.replace (drop n c.args.into.now) (drop n c.compact_behind.new.into) c.in-Err.full c.compact_behind.result c.in-Err.is c.compact_behind.ensures.done)
    c.compact_behind.ensures.front

pub returns-in-Err-clause-room : goal.returns-in-Err-clause-room
returns-in-Err-clause-room c =
    let n = c.first_offset-first.result in
    room_less c.args.store c.args.bytes.now c.args.into.now c.compact_behind.new.into n c.args.replace c.region_in-region.result c.in-Err.full c.first_offset-first.ensures
    c.requires.into c.region_in-region.ensures
    (was_full c.region_in-region.result c.args.replace (drop n c.args.into.now) (drop n c.compact_behind.new.into) c.in-Err.full c.compact_behind.result c.in-Err.is c.compact_behind.ensures.done)
    c.compact_behind.ensures.front

pub returns-in-Err-clause-same : goal.returns-in-Err-clause-same
returns-in-Err-clause-same c =
    let n = c.first_offset-first.result in
    same_is c.args.store c.args.bytes.now c.args.into.now c.compact_behind.new.into n c.args.replace c.region_in-region.result c.in-Err.full c.first_offset-first.ensures
    c.requires.into c.region_in-region.ensures
    (was_full c.region_in-region.result c.args.replace (drop n c.args.into.now) (drop n c.compact_behind.new.into) c.in-Err.full c.compact_behind.result c.in-Err.is c.compact_behind.ensures.done)
    c.compact_behind.ensures.front
