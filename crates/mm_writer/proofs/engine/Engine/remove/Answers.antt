use Rattle.std.proofs.Common.{◌≡◌, List, sym, subst, ℕ}
use Rattle.mm_writer.proofs.Decided.{may_remove, remove_more, remove_step}
use Rattle.mm_writer.specs.Edit.{MayRemoveFrom}
use Rattle.mm_writer.specs.Side.{state_of}
use Rattle.nv_store.specs.Outcome.{without}
use Rattle.var_types.specs.declared.reply.SetReply.TheVariants.{Ok as Changed}
use Rattle.var_types.specs.Key.{key_of}
use Rattle.var_types.specs.Set.{changed, set_step}
use Rattle.mm_writer.proofs.engine.Engine.remove.Goals as goal

pub edit-requires-clause-may : goal.edit-requires-clause-may
edit-requires-clause-may g c =
    let state = state_of c.args.self.now.1.1 in
    subst (λ (name : List ℕ). MayRemoveFrom state c.args.store (key_of c.args.call.now.guid name)) (sym c.as_slice.ensures.items)
    (may_remove c.decisions_decide.ensures state c.args.call.now c.args.store c.requires.remove)

pub edit-requires-clause-step : goal.edit-requires-clause-step
edit-requires-clause-step g c =
    let state = state_of c.args.self.now.1.1 in
    let call = c.args.call.now in
    subst (λ (name : List ℕ). set_step state call ≡ (Changed, changed state (without (key_of call.guid name) state.variables)))
    (sym c.as_slice.ensures.items) (remove_step c.decisions_decide.ensures state call c.args.store c.requires.remove)

pub edit-requires-clause-more : goal.edit-requires-clause-more
edit-requires-clause-more g c =
    remove_more c.decisions_decide.ensures (state_of c.args.self.now.1.1) c.args.call.now c.args.store c.requires.remove
