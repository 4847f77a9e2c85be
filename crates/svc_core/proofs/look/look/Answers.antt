use Rattle.std.proofs.Common.{ap, sym, ◌∙◌}
use Rattle.var_types.specs.declared.reply.Reply.TheVariants as replied
use Rattle.svc_core.specs.World.{look}
use Rattle.svc_core.proofs.Looks.{look_get, look_next}
use Rattle.svc_core.proofs.look.look.Goals as goal

pub returns-in_ok-reply-in-Get-clause-reply : goal.returns-in_ok-reply-in-Get-clause-reply
returns-in_ok-reply-in-Get-clause-reply c =
    ap replied.Get c.in_ok-reply-in-Get.ensures ∙ look_get c.args.cache.now c.in-Get.call ∙ ap (look c.args.cache.now) (sym c.in-Get.is)

pub returns-in_ok-reply-in-Next-clause-reply : goal.returns-in_ok-reply-in-Next-clause-reply
returns-in_ok-reply-in-Next-clause-reply c =
    ap replied.Next c.in_ok-reply-in-Next.ensures ∙ look_next c.args.cache.now c.in-Next.call ∙ ap (look c.args.cache.now) (sym c.in-Next.is)
