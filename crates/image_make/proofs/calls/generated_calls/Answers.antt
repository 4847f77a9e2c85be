use Rattle.std.proofs.Common.{◌≡◌, List, [], ◌∷◌, ◌++◌, ◌∙◌, sym, ap, ap₂, arith}
use Rattle.image_make.specs.Generated.{first_calls, generated_calls}
use Rattle.image_make.proofs.Fronts.{first_calls-more, first_calls-zero}
use Rattle.var_types.specs.declared.call.Call.{Call}
use Rattle.image_make.proofs.calls.generated_calls.Goals as goal

pub loop-index-init : goal.loop-index-init
loop-index-init c = c.in_ok-calls.ensures.items ∙ sym (first_calls-zero c.args.number)

pub loop-index-preserved : goal.loop-index-preserved
loop-index-preserved c =
    c.in_ok-push.ensures.items
    ∙ ap₂ (λ (calls : List Call) (call : Call). calls ++ call ∷ []) c.loop-index.invariant c.in_ok-generated_call.ensures
    ∙ sym (first_calls-more c.args.number c.loop-index.index)

pub returns : goal.returns
unfolding generated_calls
returns c =
    let end : c.loop-index.index ≡ 4000 = omega arith in
    c.loop-index.invariant ∙ ap (first_calls c.args.number) end
