use Rattle.svc_core.proofs.Scenes.{can_go, still_step}
use Rattle.svc_core.proofs.world.World.advance.Goals as goal

pub returns-then-is_still : goal.returns-then-is_still
returns-then-is_still g c =
    still_step c.self.inside.standing (g.W.Writes.opening c.self.inside.writer) (g.W.Writes.own c.self.inside.writer) c.self.inside.machine c.args.self.now
    c.self.view_is c.self.invariant c.requires.live c.requires.running c.args.p (c.is_still.ensures.still c.if-is_still.true)

pub go-requires-clause-ready : goal.go-requires-clause-ready
go-requires-clause-ready g c =
    can_go c.self.inside.standing (g.W.Writes.opening c.self.inside.writer) (g.W.Writes.own c.self.inside.writer) c.self.inside.machine c.args.self.now
    c.self.view_is c.self.invariant c.requires.live c.requires.running c.args.p c.point.result.now (c.is_still.ensures.within c.if-is_still.false)
    c.point.ensures (c.is_decide.ensures.no c.if-is_decide.false) (c.is_still.ensures.ready c.if-is_still.false)
