use Rattle.std.proofs.Common.{◌+◌, arith, refl, set, subst, sym}
use Rattle.std.proofs.lemmas.Result.{on_ok_weaker}
use Rattle.var_types.specs.declared.record_state.RecordState.TheVariants.{Added, InDeletedTransition}
use Rattle.var_types.specs.declared.store.Store.TheVariants.{NonVolatile}
use Rattle.var_types.specs.Key.{key_of}
use Rattle.nv_store.specs.Outcome.{without}
use Rattle.nv_store.specs.Steps.{IsLastDeleted}
use Rattle.nv_store.specs.StepsLeft.{IsEither, IsMapOr}
use Rattle.nv_store.proofs.Stepping.{step_weaken}
use Rattle.nv_store.proofs.Turned.{deleted_at, one_there}
use Rattle.nv_store.proofs.Turns.{deleted_bit, either_or, removed_bit}
use Rattle.nv_store.proofs.marking.delete_last.Goals as goal

pub turn_both-requires-clause-one_bit : goal.turn_both-requires-clause-one_bit
turn_both-requires-clause-one_bit g c = removed_bit

pub returns-in-Some-clause-deleted : goal.returns-in-Some-clause-deleted
returns-in-Some-clause-deleted g c =
    let key = key_of c.args.guid.now c.args.name.now in
    on_ok_weaker c.turn_both.result
    (λ e. subst (IsLastDeleted NonVolatile key c.args.bytes.now) (sym e)
    (deleted_at NonVolatile key c.args.bytes.now c.place_of.result Added 0x3D c.in-Some.at refl (λ e. omega arith) c.place_of.ensures.first c.in-Some.is c.requires.last))
    c.turn_both.ensures.turned

pub returns-in-Some-clause-at_any_moment : goal.returns-in-Some-clause-at_any_moment
returns-in-Some-clause-at_any_moment g c =
    let bytes = c.args.bytes.now in
    let next = set bytes (c.in-Some.at + 2) 0x3D in
    let key = key_of c.args.guid.now c.args.name.now in
    step_weaken (IsEither bytes next) (IsMapOr (without key) bytes) _ _ c.turn_both.ensures.at_any_moment
    (either_or (without key) bytes next
    ((deleted_at NonVolatile key bytes c.place_of.result Added 0x3D c.in-Some.at refl (λ e. omega arith) c.place_of.ensures.first c.in-Some.is c.requires.last).map))

pub turn_both-requires-in-Some-place_of-clause-one_bit : goal.turn_both-requires-in-Some-place_of-clause-one_bit
turn_both-requires-in-Some-place_of-clause-one_bit g c = deleted_bit

pub returns-in-Some-place_of-clause-deleted : goal.returns-in-Some-place_of-clause-deleted
returns-in-Some-place_of-clause-deleted g c =
    let key = key_of c.args.guid.now c.args.name.now in
    on_ok_weaker c.turn_both-in-Some-place_of.result
    (λ e. subst (IsLastDeleted NonVolatile key c.args.bytes.now) (sym e)
    (deleted_at NonVolatile key c.args.bytes.now c.place_of-2.result InDeletedTransition 0x3C c.in-Some-place_of.at refl (λ e. omega arith) c.place_of-2.ensures.first
    c.in-Some-place_of.is c.requires.last))
    c.turn_both-in-Some-place_of.ensures.turned

pub returns-in-Some-place_of-clause-at_any_moment : goal.returns-in-Some-place_of-clause-at_any_moment
returns-in-Some-place_of-clause-at_any_moment g c =
    let bytes = c.args.bytes.now in
    let next = set bytes (c.in-Some-place_of.at + 2) 0x3C in
    let key = key_of c.args.guid.now c.args.name.now in
    step_weaken (IsEither bytes next) (IsMapOr (without key) bytes) _ _ c.turn_both-in-Some-place_of.ensures.at_any_moment
    (either_or (without key) bytes next
    ((deleted_at NonVolatile key bytes c.place_of-2.result InDeletedTransition 0x3C c.in-Some-place_of.at refl (λ e. omega arith) c.place_of-2.ensures.first
    c.in-Some-place_of.is c.requires.last).map))

pub returns-in-None-clause-deleted : goal.returns-in-None-clause-deleted
returns-in-None-clause-deleted g c =
    absurd (one_there NonVolatile (key_of c.args.guid.now c.args.name.now) c.args.bytes.now c.place_of.result c.place_of-2.result c.place_of.ensures.first c.in_default.is
    c.place_of-2.ensures.first c.in-None.is c.requires.last)
