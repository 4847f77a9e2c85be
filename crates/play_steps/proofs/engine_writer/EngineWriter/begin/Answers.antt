use Rattle.std.proofs.Common.{◌≡◌, None, sym, ap, subst, ◌∙◌}
use Rattle.mm_writer.specs.Engine.{opened_side}
use Rattle.mm_writer.specs.Side.{state_of}
use Rattle.play_steps.proofs.Openings.{opening_is, state_first}
use Rattle.play_steps.specs.EngineWriter.{EngineState}
use Rattle.play_steps.specs.ListedFlash.{ListedState, bytes_of}
use Rattle.var_types.specs.Kept.{kept}
use Rattle.var_types.specs.State.{start}
use Rattle.play_steps.proofs.engine_writer.EngineWriter.begin.Goals as goal

pub returns-in-Ok-clause-opening : goal.returns-in-Ok-clause-opening
returns-in-Ok-clause-opening c =
    let e : EngineState = c.give_list-opening.new.self in
    let rest = c.give_list-opening.ensures.rest in
    let limit = c.args.limit in
    let sure : e.1.0 ≡ None = ap (λ r. r.0) rest ∙ c.in-Ok.ensures.opened.0 in
    let side : e.1.1 ≡ opened_side e.1.1.stores.non_volatile limit =
    subst (λ r. r.1 ≡ opened_side r.1.stores.non_volatile limit) (sym rest) c.in-Ok.ensures.side in
    opening_is e c.args.image.items limit c.history-history.ensures.whole sure side
    (ap (λ r. state_of r.1) rest ∙ c.in-Ok.ensures.opened.1 ∙ ap (λ (f : ListedState). start (kept (bytes_of f)) limit) c.new.ensures)
    (ap (λ (f : ListedState). kept (bytes_of f)) c.give_list-opening.ensures.gives.begun
    ∙ c.in-Ok.ensures.at_any_moment.now.kept ∙ ap (λ (f : ListedState). kept (bytes_of f)) c.new.ensures)

pub returns-in-Ok-clause-state : goal.returns-in-Ok-clause-state
returns-in-Ok-clause-state c =
    let e : EngineState = c.give_list-opening.new.self in
    let rest = c.give_list-opening.ensures.rest in
    let limit = c.args.limit in
    let sure : e.1.0 ≡ None = ap (λ r. r.0) rest ∙ c.in-Ok.ensures.opened.0 in
    let side : e.1.1 ≡ opened_side e.1.1.stores.non_volatile limit =
    subst (λ r. r.1 ≡ opened_side r.1.stores.non_volatile limit) (sym rest) c.in-Ok.ensures.side in
    sym (state_first e c.args.image.items limit c.history-history.ensures.whole sure side)
    ∙ ap (λ r. state_of r.1) rest ∙ c.in-Ok.ensures.opened.1 ∙ ap (λ (f : ListedState). start (kept (bytes_of f)) limit) c.new.ensures
