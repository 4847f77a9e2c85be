use Rattle.std.proofs.Common.{◌≤◌, length, sym, ap, ◌∙◌, arith}
use Rattle.svc_core.specs.Progress.{point_at}
use Rattle.svc_core.proofs.Points.{no_point}
use Rattle.svc_core.specs.Scene.{Scene}
use Rattle.svc_core.proofs.world.World.point.Goals as goal

pub returns-else-processor-len : goal.returns-else-processor-len
returns-else-processor-len g c =
    let behind : length c.self.inside.machine.progress.processors ≤ c.args.processor = omega (arith, c.if-processor-len.false, c.len.ensures) in
    sym (ap (λ (s : Scene). point_at s.world.processors c.args.processor) (sym c.self.view_is)
    ∙ no_point c.self.inside.machine.progress.processors c.args.processor behind)
