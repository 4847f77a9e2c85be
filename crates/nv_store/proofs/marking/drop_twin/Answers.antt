use Rattle.std.proofs.Common.{◌+◌, set, subst, sym}
use Rattle.std.proofs.lemmas.Result.{on_ok_weaker}
use Rattle.var_types.specs.declared.store.Store.TheVariants.{NonVolatile}
use Rattle.var_types.specs.Key.{key_of}
use Rattle.nv_store.specs.Steps.{IsTwinDropped}
use Rattle.nv_store.specs.StepsLeft.{IsEither, IsMapAs}
use Rattle.nv_store.proofs.Stepping.{step_weaken}
use Rattle.nv_store.proofs.Turned.{dropped_at, dropped_none}
use Rattle.nv_store.proofs.Turns.{deleted_bit, either_as}
use Rattle.nv_store.proofs.marking.drop_twin.Goals as goal

pub turn_both-requires-clause-one_bit : goal.turn_both-requires-clause-one_bit
turn_both-requires-clause-one_bit g c = deleted_bit

pub returns-in-Some-clause-dropped : goal.returns-in-Some-clause-dropped
returns-in-Some-clause-dropped g c =
    let key = key_of c.args.guid.now c.args.name.now in
    on_ok_weaker c.turn_both.result
    (λ e. subst (IsTwinDropped NonVolatile key c.args.bytes.now) (sym e)
    (dropped_at NonVolatile key c.args.bytes.now c.twin_of.result c.in-Some.at c.twin_of.ensures.twin c.in-Some.is c.requires.few))
    c.turn_both.ensures.turned

pub returns-in-Some-clause-at_any_moment : goal.returns-in-Some-clause-at_any_moment
returns-in-Some-clause-at_any_moment g c =
    let bytes = c.args.bytes.now in
    let next = set bytes (c.in-Some.at + 2) 0x3C in
    let key = key_of c.args.guid.now c.args.name.now in
    step_weaken (IsEither bytes next) (IsMapAs bytes) _ _ c.turn_both.ensures.at_any_moment
    (either_as bytes next ((dropped_at NonVolatile key bytes c.twin_of.result c.in-Some.at c.twin_of.ensures.twin c.in-Some.is c.requires.few).map))

pub returns-in-None-clause-dropped : goal.returns-in-None-clause-dropped
returns-in-None-clause-dropped g c =
    dropped_none NonVolatile (key_of c.args.guid.now c.args.name.now) c.args.bytes.now c.twin_of.result c.twin_of.ensures.twin c.in-None.is
