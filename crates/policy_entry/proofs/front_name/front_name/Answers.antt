use Rattle.std.proofs.Common.{sym, ◌∙◌}
use Rattle.policy_entry.proofs.FrontNames.{front_is}
use Rattle.policy_entry.proofs.front_name.front_name.Goals as goal

pub returns-then-is_name_length-clause-some : goal.returns-then-is_name_length-clause-some
returns-then-is_name_length-clause-some c =
    front_is c.in_ok-count.count c.args.bytes.now (sym c.in_ok-count.ensures.position) (sym c.is_name_length.ensures ∙ c.if-is_name_length.true) c.in_ok-count.ensures.within
