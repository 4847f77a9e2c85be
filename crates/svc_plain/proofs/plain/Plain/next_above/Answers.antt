use Rattle.std.proofs.Common.{ap, ◌∙◌}
use Rattle.std.specs.Option.{option_copied}
use Rattle.var_types.specs.Next.{next_above}
use Rattle.var_types.specs.State.{State}
use Rattle.svc_plain.proofs.plain.Plain.next_above.Goals as goal

pub returns : goal.returns
unfolding next_above
returns c = c.key_above.ensures ∙ ap (λ (s : State). next_above s (option_copied c.args.bound)) c.self.view_is
