use Rattle.std.proofs.Common.{IfSome, ap, refl, subst, ◌∙◌}
use Rattle.mm_writer.proofs.Doubts.{told_held}
use Rattle.mm_writer.proofs.InDoubt.{in_doubt_by, keeps_by}
use Rattle.mm_writer.proofs.Kept.{stands_for}
use Rattle.mm_writer.specs.declared.view.EngineView.{EngineView}
use Rattle.mm_writer.specs.Doubt.{IsInDoubt}
use Rattle.mm_writer.specs.Engine.{side_by}
use Rattle.mm_writer.specs.Outcome.{IsKeptBut}
use Rattle.mm_writer.specs.Side.{IsConsistent, Side, first_state, state_of}
use Rattle.policy_table.specs.PolicyState.{policies_of}
use Rattle.mm_writer.specs.Stands.{Stands}
use Rattle.var_trace.specs.StoresAfter.{history_in}
use Rattle.var_types.specs.declared.store.Store.TheVariants.{NonVolatile, Volatile}
use Rattle.var_types.specs.Stores.{state_in, state_seen, store_region}
use Rattle.mm_writer.proofs.engine.Engine.view.Goals as goal

pub returns-clause-stands : goal.returns-clause-stands
returns-clause-stands g c =
    let e = c.self.inside in
    let side : Side = side_by e.opened.value.1.0 e.store.1.0 e.volatile e.books in
    let view : EngineView = record {
      non_volatile = c.region_in.result;
      volatile = c.region_in-2.result;
      totals = e.totals;
      policies = c.policies.result;
      runtime = e.books.runtime;
      made = c.len.result;
      limit = c.limit.result;
    } in
    subst (λ v. Stands view (state_of v.1.1)) c.self.view_is
    (stands_for side view e.policies c.self.invariant.kept (c.region_in.ensures ∙ ap (store_region NonVolatile) c.mirror.ensures.bytes)
    (c.region_in-2.ensures ∙ ap (store_region Volatile) c.bytes.ensures.bytes) refl c.len.ensures.len c.limit.ensures
    (ap (λ v. policies_of (state_of v.1.1)) c.self.view_is ∙ c.policies.ensures))

pub returns-clause-keeps : goal.returns-clause-keeps
returns-clause-keeps g c =
    let e = c.self.inside in
    let side : Side = side_by e.opened.value.1.0 e.store.1.0 e.volatile e.books in
    subst (λ v. IfSome (g.F.Flash.holds v.0) (IsKeptBut v.1.1 v.1.0)) c.self.view_is
    (keeps_by side c.self.invariant.kept.consistent e.failed e.store.1.1 c.self.invariant.doubted (g.F.Flash.holds e.store.0)
    (told_held e.store.1.0 e.store.1.1 (g.F.Flash.holds e.store.0) c.mirror.ensures.store.image c.mirror.ensures.kept))

pub returns-clause-doubt : goal.returns-clause-doubt
returns-clause-doubt g c =
    let e = c.self.inside in
    let side : Side = side_by e.opened.value.1.0 e.store.1.0 e.volatile e.books in
    subst (λ v. IfSome v.1.0 (IsInDoubt (first_state v.1.1) (history_in v.1.1.log))) c.self.view_is
    (in_doubt_by (first_state side) (history_in side.log) e.failed e.store.1.1 c.self.invariant.doubted)

pub returns-clause-seen : goal.returns-clause-seen
unfolding state_in
returns-clause-seen g c =
    let e = c.self.inside in
    ap (λ a. state_seen a c.region_in-2.result e.books.runtime) (c.region_in.ensures ∙ ap (store_region NonVolatile) c.mirror.ensures.bytes)
    ∙ ap (λ b. state_seen (store_region NonVolatile e.store.1.0) b e.books.runtime) (c.region_in-2.ensures ∙ ap (store_region Volatile) c.bytes.ensures.bytes)
    ∙ ap (λ v. state_in v.1.1.stores) c.self.view_is

pub returns-clause-consistent : goal.returns-clause-consistent
returns-clause-consistent g c = subst (λ v. IsConsistent v.1.1) c.self.view_is c.self.invariant.kept.consistent
