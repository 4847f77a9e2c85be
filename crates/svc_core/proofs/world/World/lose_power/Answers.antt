use Rattle.svc_core.proofs.Scenes.{consistent, power_holds, power_step}
use Rattle.svc_core.proofs.Tears.{next_fits}
use Rattle.svc_core.proofs.world.World.lose_power.Goals as goal

pub lose_power-requires : goal.lose_power-requires
lose_power-requires g c =
    next_fits (g.W.Writes.opening c.self.inside.writer) (g.W.Writes.own c.self.inside.writer) c.self.inside.machine
    (consistent c.self.inside.standing (g.W.Writes.opening c.self.inside.writer) (g.W.Writes.own c.self.inside.writer) c.self.inside.machine
    c.args.self.now c.self.view_is c.self.invariant c.requires.live c.requires.running)

pub invariant_of-self : goal.invariant_of-self
invariant_of-self g c =
    power_holds c.self.inside.standing (g.W.Writes.opening c.self.inside.writer) (g.W.Writes.own c.self.inside.writer) c.self.inside.machine
    c.args.self.now c.self.view_is c.self.invariant c.requires.live c.requires.running c.args.torn c.lose_power.new.self c.lose_power.ensures

pub returns : goal.returns
returns g c =
    power_step c.self.inside.standing (g.W.Writes.opening c.self.inside.writer) (g.W.Writes.own c.self.inside.writer) c.self.inside.machine
    c.args.self.now c.self.view_is c.self.invariant c.requires.live c.requires.running c.args.torn c.lose_power.new.self c.lose_power.ensures
