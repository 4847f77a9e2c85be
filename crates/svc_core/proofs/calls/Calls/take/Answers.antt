use Rattle.std.proofs.Common.{sym, ap, ◌∙◌, ◌++◌, Option}
use Rattle.std.specs.Prelude.{option_to_list}
use Rattle.std.specs.Vec.Iter.{into_iter_items}
use Rattle.var_types.specs.declared.call.Call.{Call}
use Rattle.svc_core.proofs.Seats.{taken_first, taken_rest}
use Rattle.svc_core.proofs.calls.Calls.take.Goals as goal

pub returns-clause-call : goal.returns-clause-call
returns-clause-call c =
    c.replace.ensures.value
    ∙ taken_first c.args.self.now (into_iter_items c.self.inside.later) c.self.inside.next c.self.invariant (sym c.self.view_is)

pub returns-clause-rest : goal.returns-clause-rest
returns-clause-rest c =
    ap (λ (o : Option Call). option_to_list o ++ into_iter_items c.next-next.new.self) c.replace.ensures.after ∙ sym c.next-next.ensures.items
    ∙ taken_rest c.args.self.now (into_iter_items c.self.inside.later) c.self.inside.next c.self.invariant (sym c.self.view_is)
