use Rattle.std.proofs.Common.{◌≡◌, ◌≤◌, List, [], ◌∷◌, ◌++◌, length, map, Vec, Global, All, sym, ap, subst, ◌∙◌, append_assoc}
use Rattle.std.proofs.lemmas.List.Elements.{All-tail}
use Rattle.std.specs.Vec.Iter.{into_iter_items}
use Rattle.script_text.specs.Script.{most_calls}
use Rattle.var_types.specs.declared.call.Call.{Call}
use Rattle.varsvc.proofs.run.queue.queues_of.Goals as goal

abbrev items_of : Vec Call Global → List Call
items_of v = v.items

abbrev IsShort : List Call → Type 0
IsShort calls = length calls ≤ most_calls

-- the queues so far, this one and those of the lists that are left
more_lists : (done : List (List Call)) (queue : List Call) (calls : Vec Call Global) (before after : List (Vec Call Global)) (whole : List (List Call))
    → before ≡ calls ∷ after → queue ≡ calls.items → done ++ map items_of before ≡ whole → (done ++ queue ∷ []) ++ map items_of after ≡ whole
more_lists done queue calls before after whole is same h =
    append_assoc done (queue ∷ []) (map items_of after)
    ∙ ap (λ (q : List Call). done ++ q ∷ map items_of after) same
    ∙ ap (λ (vs : List (Vec Call Global)). done ++ map items_of vs) (sym is)
    ∙ h

pub loop-calls-preserved : goal.loop-calls-preserved
loop-calls-preserved c =
    let before = into_iter_items c.loop-calls.calls-iterator in
    let after = into_iter_items c.next.new.self in
    record {
      whole =
          ap (λ (qs : List (List Call)). qs ++ map items_of after) c.in_ok-push.ensures.items
          ∙ more_lists c.loop-calls.queues.items c.in_ok-new.field-0 c.in-Some.calls before after (map items_of c.args.script.items) c.in-Some.ensures.steps.0
          c.in_ok-new.ensures c.loop-calls.invariant.whole;
      short =
          All-tail IsShort c.in-Some.calls.items (map items_of after)
          (subst (λ (vs : List (Vec Call Global)). All IsShort (map items_of vs)) c.in-Some.ensures.steps.0 c.loop-calls.invariant.short);
    }
