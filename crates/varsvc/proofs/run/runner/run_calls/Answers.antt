use Rattle.std.proofs.Common.{◌≡◌, ◌≤◌, List, [], ◌∷◌, ◌++◌, length, length-append, arith, refl, sym, ap, subst, ◌∙◌, append_assoc}
use Rattle.std.proofs.lemmas.List.{length-map}
use Rattle.std.specs.Vec.Iter.{into_iter_items}
use Rattle.script_text.specs.Script.{most_calls}
use Rattle.var_trace.specs.Answers.{AnsweredCalls}
use Rattle.var_types.specs.declared.answered.Answered.{Answered}
use Rattle.var_types.specs.declared.call.Call.{Call}
use Rattle.var_types.specs.Session.{calls_of}
use Rattle.varsvc.proofs.Running.{run_next}
use Rattle.varsvc.specs.Running.{HasRun}
use Rattle.varsvc.proofs.run.runner.run_calls.Goals as goal

-- the calls so far, this one and those that are left
more_calls : (calls done : List Call) (call : Call) (before after : List Call) → before ≡ call ∷ after → done ++ before ≡ calls
    → (done ++ call ∷ []) ++ after ≡ calls
more_calls calls done call before after is h = append_assoc done (call ∷ []) after ∙ ap (λ cs. done ++ cs) (sym is) ∙ h

pub step_call-requires : goal.step_call-requires
step_call-requires g c =
    let done = c.loop-call.answers.answered in
    let left = into_iter_items c.loop-call.call-iterator in
    let all = ap (λ (cs : List Call). length cs) c.loop-call.invariant.calls in
    let joined = length-append (calls_of done) left in
    let count = length-map done (λ (a : Answered). a.call) in
    let next = ap (λ (cs : List Call). length cs) c.in-Some.ensures.steps.0 in
    let limit = c.loop-call.invariant.limit in
    let few = c.loop-call.invariant.few in
    record { room = omega (arith, all, joined, count, next, limit); few = omega (arith, limit, few) }

pub loop-call-init : goal.loop-call-init
loop-call-init g c =
    let empty : c.queue.inside.answers.answered ≡ [] = ap (λ (a : AnsweredCalls). a.answered) c.queue.invariant.0 in
    let whole : c.queue.inside.calls.items ≡ c.args.queue = c.queue.view_is in
    record {
      run = λ first flash front turn ran.
          subst (λ (xs : List Answered). HasRun g.F.Flash.fault_count g.F.Flash.moment g.F.Flash.left_since g.F.Flash.holds first flash c.args.engine.now (front ++ xs ∷ []))
          (sym empty) (run_next first flash c.args.engine.now front ran);
      calls =
          ap (λ (xs : List Answered). calls_of xs ++ into_iter_items c.into_iter-call-iterator.result) empty
          ∙ c.into_iter-call-iterator.ensures.into_iter_gives.0 ∙ whole;
      limit = ap (λ (a : AnsweredCalls). a.limit) c.queue.invariant.0 ∙ ap (λ (cs : List Call). length cs) whole;
      few = subst (λ (cs : List Call). length cs ≤ most_calls) whole c.queue.invariant.1;
      desk = refl;
    }

pub loop-call-preserved : goal.loop-call-preserved
loop-call-preserved g c = record {
  run = λ first flash front turn ran. c.step_call.ensures.run first flash front turn (c.loop-call.invariant.run first flash front turn ran);
  calls =
      ap (λ (cs : List Call). cs ++ into_iter_items c.next.new.self) c.step_call.ensures.calls
      ∙ more_calls c.args.queue (calls_of c.loop-call.answers.answered) c.in-Some.call (into_iter_items c.loop-call.call-iterator)
      (into_iter_items c.next.new.self) c.in-Some.ensures.steps.0 c.loop-call.invariant.calls;
  limit = c.step_call.ensures.limit ∙ c.loop-call.invariant.limit;
  few = c.loop-call.invariant.few;
  desk = c.step_call.ensures.desk ∙ c.loop-call.invariant.desk;
}
