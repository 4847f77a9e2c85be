use Rattle.std.proofs.Common.{map, option_map, ap, ◌∙◌}
use Rattle.var_region.specs.Found.{seen}
use Rattle.var_types.specs.Chosen.{counting}
use Rattle.report_text.proofs.Held.{held_after-put}
use Rattle.report_text.specs.Held.{held_entry}
use Rattle.report_text.proofs.variables.hold.Goals as goal

pub returns : goal.returns
returns c =
    ap (map held_entry) c.in_ok-insert.ensures.entries
    ∙ held_after-put c.args.held.now.entries c.in_ok-key.key c.args.found c.counting-counted.result c.in_ok-key.ensures
    (c.counting-counted.ensures ∙ ap (λ held. counting (option_map seen held) (seen c.args.found)) (c.copied.ensures ∙ c.get.ensures.value))
