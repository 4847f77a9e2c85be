use Rattle.std.proofs.Common.{ap, sym, ◌∙◌}
use Rattle.std.specs.BTreeMap.{is_at, insert_entry}
use Rattle.std.specs.Map.{remove_entry}
use Rattle.svc_plain.proofs.Carried.{has_room}
use Rattle.var_types.specs.Key.{key_cmp}
use Rattle.var_types.specs.Set.{changed, variable_by}
use Rattle.var_types.specs.State.{State, stored_at}
use Rattle.var_types.specs.declared.decision.Decision.TheVariants.{Refuse, Remove, Same, Write}
use Rattle.var_types.specs.declared.key.Key.{Key}
use Rattle.var_types.specs.declared.reply.SetReply.{SetReply}
use Rattle.var_types.specs.declared.reply.SetReply.TheVariants.{Ok as Changed}
use Rattle.svc_plain.proofs.plain.Plain.set_at.Goals as goal

pub removed-requires : goal.removed-requires
removed-requires c = (c.decisions_decide.ensures c.args.self.now c.args.call.now (Remove c.in-Remove.field-0) c.in-Remove.ensures).1.more

pub written-requires-clause-more : goal.written-requires-clause-more
written-requires-clause-more c =
    (c.decisions_decide.ensures c.args.self.now c.args.call.now
    (Write c.in-Write.attributes c.in-Write.stamp c.in-Write.skip c.in-Write.append) c.in-Write.ensures).1.more

pub written-requires-clause-within : goal.written-requires-clause-within
written-requires-clause-within c =
    (c.decisions_decide.ensures c.args.self.now c.args.call.now
    (Write c.in-Write.attributes c.in-Write.stamp c.in-Write.skip c.in-Write.append) c.in-Write.ensures).1.within

pub written-requires-clause-room : goal.written-requires-clause-room
written-requires-clause-room c =
    has_room c.args.self.now c.args.call.now c.in-Write.attributes c.in-Write.stamp c.in-Write.skip c.in-Write.append c.args.key.now
    c.requires
    (c.decisions_decide.ensures c.args.self.now c.args.call.now
    (Write c.in-Write.attributes c.in-Write.stamp c.in-Write.skip c.in-Write.append) c.in-Write.ensures).1

pub returns-in-Refuse-clause-done : goal.returns-in-Refuse-clause-done
returns-in-Refuse-clause-done c = λ _.
    sym (c.decisions_decide.ensures c.args.self.now c.args.call.now (Refuse c.in-Refuse.reason) c.in-Refuse.ensures).0

pub returns-in-Same-clause-done : goal.returns-in-Same-clause-done
returns-in-Same-clause-done c = λ _. sym (c.decisions_decide.ensures c.args.self.now c.args.call.now Same c.in-Same.ensures).0

pub returns-in-Remove-clause-done : goal.returns-in-Remove-clause-done
returns-in-Remove-clause-done c = λ _.
    let state = c.args.self.now in
    let after : Key → SetReply × State = λ key. (Changed, changed state (remove_entry (is_at (key_cmp key)) state.variables)) in
    (λ i. (c.removed.ensures.reply i, c.removed.ensures.state i)) ∙ ap after c.requires
    ∙ sym (c.decisions_decide.ensures state c.args.call.now (Remove c.in-Remove.field-0) c.in-Remove.ensures).0

pub returns-in-Write-clause-done : goal.returns-in-Write-clause-done
returns-in-Write-clause-done c = λ had.
    let state = c.args.self.now in
    let w = c.in-Write in
    let after : Key → SetReply × State = λ key. (
      Changed,
      changed state
          (insert_entry key_cmp state.variables key (variable_by c.args.call.now (stored_at state key) w.attributes w.stamp w.skip w.append)),
    ) in
    (λ i. (c.written.ensures.reply had i, c.written.ensures.state had i)) ∙ ap after c.requires
    ∙ sym (c.decisions_decide.ensures state c.args.call.now (Write w.attributes w.stamp w.skip w.append) c.in-Write.ensures).0
