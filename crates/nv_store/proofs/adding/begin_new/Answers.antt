use Rattle.std.proofs.Common.{◌+◌, arith, set, ◌∙◌}
use Rattle.std.proofs.lemmas.Result.{on_ok_weaker}
use Rattle.nv_store.specs.StepsLeft.{IsEither, IsHeaderTorn, IsMapAs}
use Rattle.nv_store.proofs.Beginnings.{at_clean, at_low, at_torn, begun_byte, begun_either, begun_next}
use Rattle.nv_store.proofs.Stepping.{step_then, step_weaken}
use Rattle.nv_store.proofs.Turns.{valid_bit}
use Rattle.nv_store.proofs.adding.begin_new.Goals as goal

pub write_header-requires-clause-low : goal.write_header-requires-clause-low
write_header-requires-clause-low g c = at_low c.args.bytes.now c.args.new.now c.requires.fits c.args.at c.requires.tail

pub write_header-requires-clause-clean : goal.write_header-requires-clause-clean
write_header-requires-clause-clean g c = at_clean c.args.bytes.now c.args.new.now c.requires.fits c.args.at c.requires.tail

pub returns-in_err-write_header-clause-at_any_moment : goal.returns-in_err-write_header-clause-at_any_moment
returns-in_err-write_header-clause-at_any_moment g c =
    let old = c.args.bytes.now in
    step_weaken (IsHeaderTorn c.args.at old) (IsMapAs old) _ _ c.write_header.ensures.at_any_moment
    (at_torn old c.args.new.now c.requires.fits c.args.at c.requires.tail)

pub turn_both-requires-clause-low : goal.turn_both-requires-clause-low
turn_both-requires-clause-low g c = omega (arith, at_low c.args.bytes.now c.args.new.now c.requires.fits c.args.at c.requires.tail)

pub turn_both-requires-clause-one_bit : goal.turn_both-requires-clause-one_bit
turn_both-requires-clause-one_bit g c = valid_bit

pub turn_both-requires-clause-byte : goal.turn_both-requires-clause-byte
turn_both-requires-clause-byte g c =
    begun_byte c.args.bytes.now c.args.new.now c.requires.fits c.args.at c.requires.tail c.write_header.new.bytes c.in_ok-write_header.ensures.written

pub returns-clause-begun : goal.returns-clause-begun
returns-clause-begun g c =
    on_ok_weaker c.turn_both.result
    (λ e. e ∙ begun_next c.args.bytes.now c.args.new.now c.requires.fits c.args.at c.requires.tail c.write_header.new.bytes c.in_ok-write_header.ensures.written)
    c.turn_both.ensures.turned

pub returns-clause-at_any_moment : goal.returns-clause-at_any_moment
returns-clause-at_any_moment g c =
    let old = c.args.bytes.now in
    let bytes = c.write_header.new.bytes in
    step_then (IsHeaderTorn c.args.at old) (IsEither bytes (set bytes (c.args.at + 2) 0x7F)) (IsMapAs old) _ _ _ c.write_header.ensures.at_any_moment
    c.turn_both.ensures.at_any_moment (at_torn old c.args.new.now c.requires.fits c.args.at c.requires.tail)
    (begun_either old c.args.new.now c.requires.fits c.args.at c.requires.tail bytes c.in_ok-write_header.ensures.written)
