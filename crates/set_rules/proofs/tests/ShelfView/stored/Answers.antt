use Rattle.std.proofs.Common.{sym, ap, ◌∙◌}
use Rattle.set_rules.specs.Seen.{seen}
use Rattle.var_types.specs.Key.{key_of}
use Rattle.var_types.specs.State.{stored_at}
use Rattle.set_rules.proofs.tests.ShelfView.stored.Goals as goal

pub returns : goal.returns
returns c = λ state is.
    ap seen c.held_at.ensures
    ∙ is.0 c.args.name.now
    ∙ ap (λ guid. stored_at state (key_of guid c.args.name.now)) (sym c.requires)
