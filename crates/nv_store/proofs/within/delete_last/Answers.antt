use Rattle.std.proofs.Common.{arith, ap, refl, subst, sym, ◌∙◌, bit_and}
use Rattle.var_region.specs.Written.{state_set}
use Rattle.var_types.specs.declared.record_state.RecordState.TheVariants.{Added, InDeletedTransition}
use Rattle.var_types.specs.Key.{key_of}
use Rattle.nv_store.specs.Steps.{IsLastDeleted, IsPlace}
use Rattle.nv_store.proofs.Turned.{at_some, deleted_at, one_there}
use Rattle.nv_store.proofs.within.delete_last.Goals as goal

pub returns-in-Some : goal.returns-in-Some
returns-in-Some c =
    let key = key_of c.args.guid.now c.args.name.now in
    let place = at_some (IsPlace c.args.store c.args.bytes.now 0x3F) c.place_of.result c.in-Some.at c.place_of.ensures.place c.in-Some.is in
    subst (IsLastDeleted c.args.store key c.args.bytes.now)
    (sym (c.mark.ensures ∙ ap (λ b. state_set c.in-Some.at (bit_and b 0xFD) c.args.bytes.now) place.byte))
    (deleted_at c.args.store key c.args.bytes.now c.place_of.result Added 0x3D c.in-Some.at refl (λ e. omega arith) c.place_of.ensures.first c.in-Some.is c.requires.last)

pub returns-in-Some-place_of : goal.returns-in-Some-place_of
returns-in-Some-place_of c =
    let key = key_of c.args.guid.now c.args.name.now in
    let at = c.in-Some-place_of.at in
    let place = at_some (IsPlace c.args.store c.args.bytes.now 0x3E) c.place_of-2.result at c.place_of-2.ensures.place c.in-Some-place_of.is in
    subst (IsLastDeleted c.args.store key c.args.bytes.now)
    (sym (c.mark-in-Some-place_of.ensures ∙ ap (λ b. state_set at (bit_and b 0xFD) c.args.bytes.now) place.byte))
    (deleted_at c.args.store key c.args.bytes.now c.place_of-2.result InDeletedTransition 0x3C at refl (λ e. omega arith) c.place_of-2.ensures.first c.in-Some-place_of.is c.requires.last)

pub returns-in_default-place_of : goal.returns-in_default-place_of
returns-in_default-place_of c =
    absurd (one_there c.args.store (key_of c.args.guid.now c.args.name.now) c.args.bytes.now c.place_of.result c.place_of-2.result c.place_of.ensures.first c.in_default.is
    c.place_of-2.ensures.first c.in_default-place_of.is c.requires.last)
