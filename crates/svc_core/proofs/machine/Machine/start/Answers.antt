use Rattle.std.proofs.Common.{sym, ap, ◌∙◌}
use Rattle.svc_core.specs.declared.point.Point.TheVariants as point
use Rattle.std.specs.Option.{option_copied}
use Rattle.svc_core.proofs.Steps.{is_none}
use Rattle.svc_core.proofs.machine.Machine.start.Goals as goal

pub returns-in_default : goal.returns-in_default
returns-in_default c = is_none c.args.self.now c.args.p point.Start c.args.self.now (sym c.call.ensures ∙ ap option_copied c.in_default.is)
