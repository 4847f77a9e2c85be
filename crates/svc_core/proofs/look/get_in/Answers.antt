use Rattle.std.proofs.Common.{◌≡◌, ℕ, List, IfOk, ap, subst}
use Rattle.var_types.specs.declared.call.GetCall.{GetCall}
use Rattle.var_types.specs.declared.reply.GetReply.{GetReply}
use Rattle.var_types.specs.Get.{get_reply}
use Rattle.var_types.specs.Stores.{state_in}
use Rattle.svc_core.proofs.look.get_in.Goals as goal

pub copied_get-requires : goal.copied_get-requires
copied_get-requires c = record { answered = (_, (c.args.buffer.now, c.get-answer.ensures)) }

pub returns : goal.returns
returns c =
    subst (λ (reply : GetReply). IfOk c.copied_get.result (λ r. r ≡ reply))
    (ap (λ (name : List ℕ). let call : GetCall = record c.args.call.now { name = name } in get_reply (state_in c.args.cache.now) call) c.as_slice.ensures.items)
    (c.copied_get.ensures.reply _ (c.args.buffer.now, c.get-answer.ensures))
