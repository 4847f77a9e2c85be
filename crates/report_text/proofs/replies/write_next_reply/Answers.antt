use Rattle.std.proofs.Common.{sym, subst}
use Rattle.var_types.specs.declared.reply.NextReply.{NextReply}
use Rattle.report_text.specs.Replies.{next_reply_text}
use Rattle.report_text.proofs.replies.write_next_reply.Goals as goal

pub returns-in-Ok-clause-text : goal.returns-in-Ok-clause-text
unfolding next_reply_text
returns-in-Ok-clause-text g c =
    let joined = g.met.P.Put.joined in
    subst (λ (reply : NextReply). g.P.Put.Puts c.args.out.now c.write_key.new.out (next_reply_text reply)) (sym c.in-Ok.is)
    (joined _ _ _ _ _ c.write_parts-in-Ok.ensures (joined _ _ _ _ _ c.put.ensures c.write_key.ensures.text))
