use Rattle.std.proofs.Common.{sym, ◌∙◌}
use Rattle.set_rules.specs.Seen.{reading}
use Rattle.var_types.proofs.SetSizes.{size_fits}
use Rattle.set_rules.proofs.rule.decide_read.Goals as goal

pub decide_sized-requires-clause-payload : goal.decide_sized-requires-clause-payload
decide_sized-requires-clause-payload g c = size_fits c.runtime.result (reading c.args.set.now) (sym c.front_case.ensures ∙ c.in-None.is)
