use Rattle.std.proofs.Common.{◌≡◌, List, [], ◌∷◌, ◌++◌, map, sym, ap, subst, ◌∙◌, append_assoc}
use Rattle.std.proofs.lemmas.List.{map-append}
use Rattle.std.specs.Vec.Iter.{into_iter_items}
use Rattle.var_types.specs.declared.answered.Answered.{Answered}
use Rattle.var_types.specs.declared.call.Call.{Call}
use Rattle.var_types.specs.Session.{calls_of}
use Rattle.varsvc.specs.Running.{HasRun}
use Rattle.varsvc.proofs.run.runner.run_queues.Goals as goal

-- the calls of the processors so far, of this one and of those that are left
more_queues : (queues before after : List (List Call)) (queue : List Call) (desk : List (List Answered)) (xs : List Answered)
    → before ≡ queue ∷ after → calls_of xs ≡ queue → map calls_of desk ++ before ≡ queues → map calls_of (desk ++ xs ∷ []) ++ after ≡ queues
more_queues queues before after queue desk xs is calls h =
    ap (λ (cs : List (List Call)). cs ++ after) (map-append calls_of desk (xs ∷ []))
    ∙ append_assoc (map calls_of desk) (calls_of xs ∷ []) after
    ∙ ap (λ (cs : List Call). map calls_of desk ++ cs ∷ after) calls
    ∙ ap (λ (cs : List (List Call)). map calls_of desk ++ cs) (sym is)
    ∙ h

pub loop-queue-preserved : goal.loop-queue-preserved
loop-queue-preserved g c =
    let desk : List (List Answered) = c.loop-queue.desk in
    let xs : List Answered = c.run_calls-answers.result.answered in
    let ended = c.put.ensures ∙ ap (λ (d : List (List Answered)). d ++ xs ∷ []) c.run_calls-answers.ensures.desk in
    record {
      run = λ first flash ran.
          subst (HasRun g.F.Flash.fault_count g.F.Flash.moment g.F.Flash.left_since g.F.Flash.holds first flash c.run_calls-answers.new.engine) (sym ended)
          (c.run_calls-answers.ensures.run first flash desk c.processor-processor.ensures (c.loop-queue.invariant.run first flash ran));
      calls =
          ap (λ (d : List (List Answered)). map calls_of d ++ into_iter_items c.next.new.self) ended
          ∙ more_queues c.args.queues.items (into_iter_items c.loop-queue.queue-iterator) (into_iter_items c.next.new.self) c.in-Some.queue desk xs
          c.in-Some.ensures.steps.0 c.run_calls-answers.ensures.calls c.loop-queue.invariant.calls;
    }
