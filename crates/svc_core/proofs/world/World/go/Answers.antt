use Rattle.svc_core.proofs.Scenes.{given_up, go_clear, go_some, gone_holds, gone_step}
use Rattle.svc_core.specs.declared.event.Event.TheVariants.{Step}
use Rattle.svc_core.proofs.world.World.go.Goals as goal

pub advance-requires-clause-some : goal.advance-requires-clause-some
advance-requires-clause-some g c =
    go_some c.self.inside.standing (g.W.Writes.opening c.self.inside.writer) (g.W.Writes.own c.self.inside.writer) c.self.inside.machine c.args.self.now
    c.self.view_is c.self.invariant c.requires.live c.requires.running c.args.p c.requires.ready

pub advance-requires-clause-clear : goal.advance-requires-clause-clear
advance-requires-clause-clear g c =
    go_clear c.self.inside.standing (g.W.Writes.opening c.self.inside.writer) (g.W.Writes.own c.self.inside.writer) c.self.inside.machine c.args.self.now
    c.self.view_is c.self.invariant c.requires.live c.requires.running c.args.p c.requires.ready

pub invariant_of-self-in-Ok : goal.invariant_of-self-in-Ok
invariant_of-self-in-Ok g c =
    gone_holds c.self.inside.standing (g.W.Writes.opening c.self.inside.writer) (g.W.Writes.own c.self.inside.writer) c.self.inside.machine c.args.self.now
    c.self.view_is c.self.invariant c.requires.live c.requires.running c.args.p c.requires.ready c.advance.new.self c.in-Ok.ensures.ok

pub returns-in-Err : goal.returns-in-Err
returns-in-Err g c =
    given_up c.self.inside.standing (g.W.Writes.opening c.self.inside.writer) (g.W.Writes.own c.self.inside.writer) c.self.inside.machine c.args.self.now
    c.self.view_is c.self.invariant c.requires.live c.requires.running (Step c.args.p) c.advance.new.self c.in-Err.ensures.err

pub returns-in-Ok : goal.returns-in-Ok
returns-in-Ok g c =
    gone_step c.self.inside.standing (g.W.Writes.opening c.self.inside.writer) (g.W.Writes.own c.self.inside.writer) c.self.inside.machine c.args.self.now
    c.self.view_is c.self.invariant c.requires.live c.requires.running c.args.p c.requires.ready c.advance.new.self c.in-Ok.ensures.ok
