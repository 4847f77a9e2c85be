use Rattle.std.proofs.Common.{◌+◌, set, subst, sym}
use Rattle.std.proofs.lemmas.Result.{on_ok_weaker}
use Rattle.var_types.specs.declared.store.Store.TheVariants.{NonVolatile}
use Rattle.var_types.specs.Key.{key_of}
use Rattle.nv_store.specs.Steps.{IsOutdated}
use Rattle.nv_store.specs.StepsLeft.{IsEither, IsMapAs}
use Rattle.nv_store.proofs.Stepping.{step_weaken}
use Rattle.nv_store.proofs.Turned.{outdated_at, outdated_nowhere}
use Rattle.nv_store.proofs.Turns.{either_as, transition_bit}
use Rattle.nv_store.proofs.marking.outdate.Goals as goal

pub turn_both-requires-clause-one_bit : goal.turn_both-requires-clause-one_bit
turn_both-requires-clause-one_bit g c = transition_bit

pub returns-in-Some-clause-outdated : goal.returns-in-Some-clause-outdated
returns-in-Some-clause-outdated g c =
    let key = key_of c.args.guid.now c.args.name.now in
    on_ok_weaker c.turn_both.result
    (λ e. subst (IsOutdated NonVolatile key c.args.bytes.now) (sym e)
    (outdated_at NonVolatile key c.args.bytes.now c.place_of.result c.in-Some.at c.place_of.ensures.first c.in-Some.is c.requires.added c.requires.no_twin))
    c.turn_both.ensures.turned

pub returns-in-Some-clause-at_any_moment : goal.returns-in-Some-clause-at_any_moment
returns-in-Some-clause-at_any_moment g c =
    let bytes = c.args.bytes.now in
    let next = set bytes (c.in-Some.at + 2) 0x3E in
    let key = key_of c.args.guid.now c.args.name.now in
    step_weaken (IsEither bytes next) (IsMapAs bytes) _ _ c.turn_both.ensures.at_any_moment
    (either_as bytes next
    ((outdated_at NonVolatile key bytes c.place_of.result c.in-Some.at c.place_of.ensures.first c.in-Some.is c.requires.added c.requires.no_twin).map))

pub returns-in-None-clause-outdated : goal.returns-in-None-clause-outdated
returns-in-None-clause-outdated g c =
    outdated_nowhere NonVolatile (key_of c.args.guid.now c.args.name.now) c.args.bytes.now c.place_of.result c.place_of.ensures.first c.in-None.is c.requires.few
