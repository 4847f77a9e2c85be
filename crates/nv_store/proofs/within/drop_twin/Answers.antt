use Rattle.std.proofs.Common.{ap, subst, sym, ◌∙◌, bit_and}
use Rattle.var_region.specs.Written.{state_set}
use Rattle.var_types.specs.Key.{key_of}
use Rattle.nv_store.specs.Steps.{IsPlace, IsTwinDropped}
use Rattle.nv_store.proofs.Turned.{at_some, dropped_at, dropped_none}
use Rattle.nv_store.proofs.within.drop_twin.Goals as goal

pub returns-in-Some : goal.returns-in-Some
returns-in-Some c =
    let key = key_of c.args.guid.now c.args.name.now in
    let place = at_some (IsPlace c.args.store c.args.bytes.now 0x3E) c.twin_of.result c.in-Some.at c.twin_of.ensures.place c.in-Some.is in
    subst (IsTwinDropped c.args.store key c.args.bytes.now)
    (sym (c.mark.ensures ∙ ap (λ b. state_set c.in-Some.at (bit_and b 0xFD) c.args.bytes.now) place.byte))
    (dropped_at c.args.store key c.args.bytes.now c.twin_of.result c.in-Some.at c.twin_of.ensures.twin c.in-Some.is c.requires.few_twins)

pub returns-in_default : goal.returns-in_default
returns-in_default c = dropped_none c.args.store (key_of c.args.guid.now c.args.name.now) c.args.bytes.now c.twin_of.result c.twin_of.ensures.twin c.in_default.is
