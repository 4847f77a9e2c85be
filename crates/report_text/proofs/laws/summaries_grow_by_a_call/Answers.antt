use Rattle.std.proofs.Common.{◌≡◌, List, [], ◌∷◌, ◌++◌, refl, ap}
use Rattle.report_text.specs.Summary.{replies_from, state_from}
use Rattle.var_types.specs.declared.call.Call.{Call}
use Rattle.var_types.specs.declared.reply.Reply.{Reply}
use Rattle.var_types.specs.State.{State}
use Rattle.var_types.specs.Step.{step}
use Rattle.report_text.proofs.laws.summaries_grow_by_a_call.Goals as goal

-- one reply more
replies_more : (state : State) (calls : List Call) (call : Call)
    → replies_from state (calls ++ call ∷ []) ≡ replies_from state calls ++ (step (state_from state calls) call).0 ∷ []
replies_more state [] call = refl
replies_more state (first ∷ calls) call = ap (λ (replies : List Reply). (step state first).0 ∷ replies) (replies_more (step state first).1 calls call)

-- the state that it leaves
state_more : (state : State) (calls : List Call) (call : Call) → state_from state (calls ++ call ∷ []) ≡ (step (state_from state calls) call).1
state_more state [] call = refl
state_more state (first ∷ calls) call = state_more (step state first).1 calls call

pub returns : goal.returns
returns c = λ state calls call. (replies_more state calls call, state_more state calls call)
