use Rattle.std.proofs.Common.{sym, ◌∙◌}
use Rattle.set_rules.specs.Seen.{reading}
use Rattle.var_types.proofs.SetSizes.{made_fits}
use Rattle.set_rules.proofs.rule.decide_allowed.Goals as goal

pub decide_fitting-requires-clause-made : goal.decide_fitting-requires-clause-made
decide_fitting-requires-clause-made g c =
    made_fits (reading c.args.set.now) c.requires.payload (sym c.stored_case.ensures ∙ c.in-None.is)
