use Rattle.std.proofs.Common.{List, [], ◌∷◌, ◌++◌, length, sym, ap, subst, arith}
use Rattle.var_trace.specs.Answers.{AnsweredCalls}
use Rattle.var_types.specs.declared.answered.Answered.{Answered}
use Rattle.var_types.specs.declared.answered.Route.TheVariants.{Plain}
use Rattle.varsvc.specs.Running.{HasRun}
use Rattle.varsvc.proofs.Running.{run_more}
use Rattle.varsvc.proofs.run.runner.step_call.Goals as goal

pub returns-clause-run : goal.returns-clause-run
returns-clause-run g c = λ first flash front turn ran.
    let xs : List Answered = c.args.answers.now.answered in
    let a : Answered = record { call = c.args.call; place = c.made-place.result; route = Plain; reply = c.serve-reply.result } in
    let count = ap (λ (ys : List Answered). length ys) c.as_slice.ensures.answered in
    subst (λ (ys : List Answered). HasRun g.F.Flash.fault_count g.F.Flash.moment g.F.Flash.left_since g.F.Flash.holds first flash c.serve-reply.new.engine (front ++ ys ∷ []))
    (sym (ap (λ (d : AnsweredCalls). d.answered) c.push.ensures))
    (run_more c.legal_sessions_grow.ensures first flash c.args.engine.now c.serve-reply.new.engine front xs c.args.processor _ c.made-place.result c.args.call
    c.serve-reply.result ran turn (omega (arith, count, c.requires.room, c.requires.few)) c.made-place.ensures c.serve-reply.ensures)
