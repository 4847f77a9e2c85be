use Rattle.std.proofs.Common.{ap, sym, ◌∙◌, drop}
use Rattle.std.proofs.lemmas.List.{drop-drop}
use Rattle.svc_core.proofs.flash_steps.FlashSteps.advance.Goals as goal

pub returns : goal.returns
returns c = sym (drop-drop 1 c.self.inside.done c.self.inside.steps.items) ∙ ap (drop 1) c.self.view_is
