use Rattle.std.proofs.Common.{ap, sym, ◌∙◌}
use Rattle.std.specs.Option.{option_map}
use Rattle.mm_writer.proofs.Views.{at_both}
use Rattle.set_rules.specs.Seen.{seen}
use Rattle.var_region.specs.Found.{seen_variable}
use Rattle.var_types.specs.Key.{key_of}
use Rattle.mm_writer.proofs.key_view.KeyViewView.stored.Goals as goal

pub returns-in_err-found : goal.returns-in_err-found
returns-in_err-found c = λ state stands.
    ap seen c.from_residual.ensures ∙ ap (option_map seen_variable) (sym c.in_err-found.was) ∙ c.requires.found
    ∙ at_both c.args.self.now.view state stands (key_of c.args._guid.now c.args._name.now)

pub returns : goal.returns
returns c = λ state stands.
    ap (option_map seen_variable) (sym c.in_ok-found.was) ∙ c.requires.found
    ∙ at_both c.args.self.now.view state stands (key_of c.args._guid.now c.args._name.now)
