use Rattle.std.proofs.Common.{ℕ, ◌≤◌, map, sym, subst}
use Rattle.std.proofs.lemmas.List.{length-map}
use Rattle.svc_core.proofs.Begins.{begins_as, begins_well}
use Rattle.svc_core.proofs.world.World.begin.Goals as goal

pub invariant_of-result : goal.invariant_of-result
invariant_of-result g c =
    begins_well (g.W.Writes.opening c.args.writer) c.args.image c.args.limit (map (λ v. v.items) c.args.calls.items) c.requires.opening
    (subst (λ (n : ℕ). n ≤ 8) (sym (length-map c.args.calls.items (λ v. v.items))) c.requires.few)
    c.in_ok-machine.machine c.in_ok-machine.ensures (g.W.Writes.own c.args.writer) c.requires.own

pub returns : goal.returns
returns g c =
    begins_as (g.W.Writes.opening c.args.writer) c.args.image c.args.limit (map (λ v. v.items) c.args.calls.items) c.requires.opening
    (subst (λ (n : ℕ). n ≤ 8) (sym (length-map c.args.calls.items (λ v. v.items))) c.requires.few)
    c.in_ok-machine.machine c.in_ok-machine.ensures (g.W.Writes.own c.args.writer) c.requires.own
