use Rattle.std.proofs.Common.{◌≡◌, ℕ, List, IfOk, ap, subst}
use Rattle.var_types.specs.declared.call.NextCall.{NextCall}
use Rattle.var_types.specs.declared.reply.NextReply.{NextReply}
use Rattle.var_types.specs.Next.{next_reply}
use Rattle.var_types.specs.Stores.{state_in}
use Rattle.svc_core.proofs.look.next_in.Goals as goal

pub copied_next-requires-clause-answered : goal.copied_next-requires-clause-answered
copied_next-requires-clause-answered c = (_, (c.args.buffer.now, c.next-answer.ensures c.requires.apart))

pub returns : goal.returns
returns c =
    subst (λ (reply : NextReply). IfOk c.copied_next.result (λ r. r ≡ reply))
    (ap (λ (name : List ℕ). let call : NextCall = record c.args.call.now { name = name } in next_reply (state_in c.args.cache.now) call) c.as_slice.ensures.items)
    (c.copied_next.ensures.reply _ (c.args.buffer.now, c.next-answer.ensures c.requires.apart))
