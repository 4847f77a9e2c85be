use Rattle.var_types.proofs.ReplyKinds.{IsOfKind-reply, IsOfKind-stepped}
use Rattle.var_types.specs.History.{after}
use Rattle.var_types.proofs.laws.replies_are_of_their_calls_kind.Goals as goal

pub returns-clause-right : goal.returns-clause-right
returns-clause-right c = λ state history place processor index call reply right.
    IsOfKind-reply (after state history place) call reply right.reply_is

pub returns-clause-stepped : goal.returns-clause-stepped
returns-clause-stepped c = IsOfKind-stepped
