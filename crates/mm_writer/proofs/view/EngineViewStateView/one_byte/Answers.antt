use Rattle.std.proofs.Common.{ap, ◌∙◌}
use Rattle.mm_writer.proofs.Views.{at_both}
use Rattle.var_types.specs.declared.key.Key.{Key}
use Rattle.var_types.specs.Key.{key_of}
use Rattle.var_types.specs.Policies.{one_byte}
use Rattle.var_types.specs.State.{stored_at}
use Rattle.mm_writer.proofs.view.EngineViewStateView.one_byte.Goals as goal

pub returns-in-None : goal.returns-in-None
returns-in-None c = λ state stands.
    let key : Key = key_of c.args.key.now.guid c.as_slice.result.now in
    ap one_byte
    (c.in-None.ensures.variable ∙ at_both c.args.self.now state stands key
    ∙ ap (λ name. stored_at state (key_of c.args.key.now.guid name)) c.as_slice.ensures.items)

pub returns-in-Some : goal.returns-in-Some
returns-in-Some c = λ state stands.
    let key : Key = key_of c.args.key.now.guid c.as_slice.result.now in
    c.only_byte.ensures
    ∙ ap one_byte
    (c.in-Some.ensures.variable ∙ at_both c.args.self.now state stands key
    ∙ ap (λ name. stored_at state (key_of c.args.key.now.guid name)) c.as_slice.ensures.items)
