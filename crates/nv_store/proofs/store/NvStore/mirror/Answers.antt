use Rattle.std.proofs.Common.{subst}
use Rattle.nv_store.specs.Mirror.{IsStore}
use Rattle.nv_store.proofs.Holdings.{sure_kept}
use Rattle.nv_store.proofs.store.NvStore.mirror.Goals as goal

pub returns-clause-kept : goal.returns-clause-kept
returns-clause-kept g c =
    sure_kept (g.F.Flash.size c.args.self.now.0) (g.F.Flash.holds c.args.self.now.0) c.args.self.now.1.0 c.args.self.now.1.1
    (subst (λ s. IsStore (g.F.Flash.size s.0) (g.F.Flash.holds s.0) s.1.0 s.1.1) c.self.view_is c.self.invariant.store)
