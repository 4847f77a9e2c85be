use Rattle.std.proofs.Common.{sym, ap, ◌∙◌}
use Rattle.std.specs.Option.{option_copied}
use Rattle.svc_core.proofs.Scenes.{decided_holds, decided_step, has_first, spoiled, spoiled_holds, within_of}
use Rattle.svc_core.specs.declared.event.Event.TheVariants.{Step}
use Rattle.svc_core.proofs.world.World.decide.Goals as goal

pub unreachable-requires : goal.unreachable-requires
unreachable-requires g c =
    let m = c.self.inside.machine in
    has_first c.self.inside.standing (g.W.Writes.opening c.self.inside.writer) (g.W.Writes.own c.self.inside.writer) m c.args.self.now c.self.view_is
    c.self.invariant c.requires.live c.requires.running c.args.p
    (within_of c.self.inside.standing (g.W.Writes.opening c.self.inside.writer) (g.W.Writes.own c.self.inside.writer) m c.args.self.now c.self.view_is
    c.self.invariant c.requires.live c.requires.running c.args.p c.requires.within)
    c.requires.at (sym c.call.ensures ∙ ap option_copied c.in-None.is)

pub invariant_of-self : goal.invariant_of-self
invariant_of-self g c =
    let m = c.self.inside.machine in
    spoiled_holds c.self.inside.standing (g.W.Writes.opening c.self.inside.writer) (g.W.Writes.own c.self.inside.writer) m c.args.self.now c.self.view_is
    c.self.invariant c.requires.live c.requires.running c.args.p
    (within_of c.self.inside.standing (g.W.Writes.opening c.self.inside.writer) (g.W.Writes.own c.self.inside.writer) m c.args.self.now c.self.view_is
    c.self.invariant c.requires.live c.requires.running c.args.p c.requires.within)
    c.requires.at (g.W.Writes.opening c.plan.new.self) (g.W.Writes.own c.plan.new.self) c.plan.ensures.opening

pub returns-in-Err : goal.returns-in-Err
returns-in-Err g c =
    let m = c.self.inside.machine in
    spoiled c.self.inside.standing (g.W.Writes.opening c.self.inside.writer) (g.W.Writes.own c.self.inside.writer) m c.args.self.now c.self.view_is
    c.self.invariant c.requires.live c.requires.running c.args.p
    (within_of c.self.inside.standing (g.W.Writes.opening c.self.inside.writer) (g.W.Writes.own c.self.inside.writer) m c.args.self.now c.self.view_is
    c.self.invariant c.requires.live c.requires.running c.args.p c.requires.within)
    c.requires.at (Step c.args.p) (g.W.Writes.opening c.plan.new.self) (g.W.Writes.own c.plan.new.self) c.plan.ensures.opening

pub invariant_of-self-in-Ok : goal.invariant_of-self-in-Ok
invariant_of-self-in-Ok g c =
    let m = c.self.inside.machine in
    decided_holds c.self.inside.standing (g.W.Writes.opening c.self.inside.writer) (g.W.Writes.own c.self.inside.writer) m c.args.self.now c.self.view_is
    c.self.invariant c.requires.live c.requires.running c.args.p
    (within_of c.self.inside.standing (g.W.Writes.opening c.self.inside.writer) (g.W.Writes.own c.self.inside.writer) m c.args.self.now c.self.view_is
    c.self.invariant c.requires.live c.requires.running c.args.p c.requires.within)
    c.requires.at c.index-index.result c.in-Some.call.now c.in-Ok.planned (g.W.Writes.own c.plan.new.self) c.index-index.ensures
    (sym (ap option_copied c.in-Some.is) ∙ c.call.ensures) c.in-Ok.ensures.plan (g.W.Writes.opening c.plan.new.self) c.decided.new.self
    c.plan.ensures.opening c.decided.ensures

pub returns-in-Ok : goal.returns-in-Ok
returns-in-Ok g c =
    let m = c.self.inside.machine in
    decided_step c.self.inside.standing (g.W.Writes.opening c.self.inside.writer) (g.W.Writes.own c.self.inside.writer) m c.args.self.now c.self.view_is
    c.self.invariant c.requires.live c.requires.running c.args.p
    (within_of c.self.inside.standing (g.W.Writes.opening c.self.inside.writer) (g.W.Writes.own c.self.inside.writer) m c.args.self.now c.self.view_is
    c.self.invariant c.requires.live c.requires.running c.args.p c.requires.within)
    c.requires.at c.index-index.result c.in-Some.call.now c.in-Ok.planned (g.W.Writes.own c.plan.new.self) c.index-index.ensures
    (sym (ap option_copied c.in-Some.is) ∙ c.call.ensures) c.in-Ok.ensures.plan (g.W.Writes.opening c.plan.new.self) c.decided.new.self
    c.plan.ensures.opening c.decided.ensures
