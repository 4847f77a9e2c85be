use Rattle.std.proofs.Common.{◌+◌, arith, ap, inl, set, subst, sym, ◌∙◌}
use Rattle.std.proofs.lemmas.Result.{on_ok_weaker}
use Rattle.var_region.specs.NewRecord.{new_key, new_size, new_variable}
use Rattle.var_types.specs.declared.store.Store.TheVariants.{NonVolatile}
use Rattle.var_types.specs.Placed.{IsOutsideKept}
use Rattle.var_types.specs.Stores.{map_in, store_region}
use Rattle.nv_store.specs.Outcome.{with_put}
use Rattle.nv_store.specs.Places.{new_span}
use Rattle.nv_store.specs.Steps.{IsAdded}
use Rattle.nv_store.specs.StepsLeft.{IsEither, IsMapAs, IsMapOr}
use Rattle.nv_store.proofs.Appended.{appended_is}
use Rattle.nv_store.proofs.Beginnings.{added_next, at_low, body_clean, body_torn, either_change, next_byte, next_map}
use Rattle.nv_store.proofs.Rewritten.{non_volatile_of}
use Rattle.nv_store.proofs.Stepping.{step_then}
use Rattle.nv_store.proofs.Turns.{added_bit}
use Rattle.nv_store.proofs.adding.add_record.Goals as goal

pub write_body-requires-clause-low : goal.write_body-requires-clause-low
write_body-requires-clause-low g c = at_low c.args.bytes.now c.args.new.now c.requires.fits c.tail_of-at.result c.tail_of-at.ensures

pub write_body-requires-clause-clean : goal.write_body-requires-clause-clean
write_body-requires-clause-clean g c =
    body_clean c.args.bytes.now c.args.new.now c.requires.fits c.tail_of-at.result c.tail_of-at.ensures c.begin_new.new.bytes c.in_ok-begin_new.ensures.begun

pub returns-in_err-write_body-clause-at_any_moment : goal.returns-in_err-write_body-clause-at_any_moment
returns-in_err-write_body-clause-at_any_moment g c =
    let old = c.args.bytes.now in
    let new = c.args.new.now in
    let at = c.tail_of-at.result in
    step_then (IsMapAs old) (IsOutsideKept (at + 60) (at + new_size new) c.begin_new.new.bytes) (IsMapOr (with_put (new_key new) (new_variable new)) old) _ _ _
    c.begin_new.ensures.at_any_moment c.write_body.ensures.at_any_moment (λ v same. inl same)
    (λ v kept. inl (body_torn old new c.requires.fits at c.tail_of-at.ensures c.begin_new.new.bytes c.in_ok-begin_new.ensures.begun v kept))

pub turn_both-requires-clause-low : goal.turn_both-requires-clause-low
turn_both-requires-clause-low g c = omega (arith, at_low c.args.bytes.now c.args.new.now c.requires.fits c.tail_of-at.result c.tail_of-at.ensures)

pub turn_both-requires-clause-one_bit : goal.turn_both-requires-clause-one_bit
turn_both-requires-clause-one_bit g c = added_bit

pub turn_both-requires-clause-byte : goal.turn_both-requires-clause-byte
turn_both-requires-clause-byte g c =
    next_byte c.args.bytes.now c.args.new.now c.requires.fits c.tail_of-at.result c.tail_of-at.ensures c.begin_new.new.bytes c.in_ok-begin_new.ensures.begun
    c.write_body.new.bytes c.in_ok-write_body.ensures.written

pub returns-clause-added : goal.returns-clause-added
returns-clause-added g c =
    let old = c.args.bytes.now in
    let new = c.args.new.now in
    on_ok_weaker c.turn_both.result
    (λ e. subst (IsAdded NonVolatile (new_key new) (new_variable new) (new_span (store_region NonVolatile old) new) old)
    (sym (e ∙ added_next old new c.requires.fits c.tail_of-at.result c.tail_of-at.ensures c.begin_new.new.bytes c.in_ok-begin_new.ensures.begun c.write_body.new.bytes c.in_ok-write_body.ensures.written))
    (appended_is NonVolatile old new c.requires.fits (non_volatile_of new c.requires.of_store) c.requires.none))
    c.turn_both.ensures.turned

pub returns-clause-at_any_moment : goal.returns-clause-at_any_moment
returns-clause-at_any_moment g c =
    let old = c.args.bytes.now in
    let new = c.args.new.now in
    let at = c.tail_of-at.result in
    let begun = c.begin_new.new.bytes in
    let bytes = c.write_body.new.bytes in
    let change = with_put (new_key new) (new_variable new) in
    step_then (IsMapAs old) (IsEither bytes (set bytes (at + 2) 0x3F)) (IsMapOr change old) _ _ _
    (step_then (IsMapAs old) (IsOutsideKept (at + 60) (at + new_size new) begun) (IsMapAs old) _ _ _
    c.begin_new.ensures.at_any_moment c.write_body.ensures.at_any_moment (λ v same. same)
    (body_torn old new c.requires.fits at c.tail_of-at.ensures begun c.in_ok-begin_new.ensures.begun))
    c.turn_both.ensures.at_any_moment (λ v same. inl same)
    (either_change change old bytes (set bytes (at + 2) 0x3F)
    (next_map old new c.requires.fits at c.tail_of-at.ensures begun c.in_ok-begin_new.ensures.begun bytes c.in_ok-write_body.ensures.written)
    (ap (map_in NonVolatile) (added_next old new c.requires.fits at c.tail_of-at.ensures begun c.in_ok-begin_new.ensures.begun bytes c.in_ok-write_body.ensures.written)
    ∙ (appended_is NonVolatile old new c.requires.fits (non_volatile_of new c.requires.of_store) c.requires.none).map))
