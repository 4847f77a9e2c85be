use Rattle.std.proofs.Common.{◌∷◌, [], arith, set}
use Rattle.ftw_work.proofs.Steps.{image_sized}
use Rattle.nv_store.specs.StepsLeft.{IsEither}
use Rattle.nv_store.proofs.Programs.{turned_left, turned_programmed}
use Rattle.nv_store.proofs.Stepping.{program_steps, programmed_told}
use Rattle.nv_store.proofs.turning.turn_both.Goals as goal

pub returns-clause-mirrored : goal.returns-clause-mirrored
returns-clause-mirrored g c =
    programmed_told c.args.at (c.args.new ∷ []) c.args.bytes.now (set c.args.bytes.now c.args.at c.args.new) (g.F.Flash.holds c.args.flash.now)
    (g.F.Flash.holds c.program.new.self) c.requires.low (omega arith) (image_sized _ _ c.requires.size (g.met.F.Flash.sized c.args.flash.now)) c.requires.mirrored
    (turned_programmed c.args.at c.args.old c.args.new c.args.bytes.now (omega arith) c.requires.byte c.requires.one_bit)
    c.program.ensures.at_any_moment.now c.in_ok-program.ensures.programmed

pub returns-clause-at_any_moment : goal.returns-clause-at_any_moment
returns-clause-at_any_moment g c =
    program_steps c.args.at (c.args.new ∷ []) c.args.bytes.now (IsEither c.args.bytes.now (set c.args.bytes.now c.args.at c.args.new)) _ _ c.requires.low (omega arith)
    c.requires.mirrored (turned_left c.args.at c.args.old c.args.new c.args.bytes.now (omega arith) c.requires.byte c.requires.one_bit)
    c.program.ensures.at_any_moment

pub returns-in_err-program-clause-at_any_moment : goal.returns-in_err-program-clause-at_any_moment
returns-in_err-program-clause-at_any_moment g c =
    program_steps c.args.at (c.args.new ∷ []) c.args.bytes.now (IsEither c.args.bytes.now (set c.args.bytes.now c.args.at c.args.new)) _ _ c.requires.low (omega arith)
    c.requires.mirrored (turned_left c.args.at c.args.old c.args.new c.args.bytes.now (omega arith) c.requires.byte c.requires.one_bit)
    c.program.ensures.at_any_moment
