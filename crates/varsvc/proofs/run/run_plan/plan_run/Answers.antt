use Rattle.std.proofs.Common.{ℕ, ◌<◌, List, length, sym, subst}
use Rattle.varsvc.specs.Input.{IsInput, most_read}
use Rattle.varsvc.proofs.Runs.{says_same}
use Rattle.varsvc.proofs.run.run_plan.plan_run.Goals as goal

pub returns-in-Ok-clause-text : goal.returns-in-Ok-clause-text
returns-in-Ok-clause-text g c =
    let left = g.S.Source.left c.args.source.now in
    c.plan_script.ensures.text left (says_same left c.as_slice.result.now (subst (IsInput left) (sym c.as_slice.ensures.items) c.in-Ok.ensures.bytes))

pub returns-in-Ok-clause-unprinted : goal.returns-in-Ok-clause-unprinted
returns-in-Ok-clause-unprinted g c =
    let left = g.S.Source.left c.args.source.now in
    c.plan_script.ensures.unprinted left (says_same left c.as_slice.result.now (subst (IsInput left) (sym c.as_slice.ensures.items) c.in-Ok.ensures.bytes))

pub returns-in-Ok-clause-reads : goal.returns-in-Ok-clause-reads
returns-in-Ok-clause-reads g c = record {
  most = c.in-Ok.ensures.taken;
  whole = λ reads done. c.in-Ok.ensures.end
      (subst (λ (xs : List ℕ). length xs < most_read) c.as_slice.ensures.items (c.plan_script.ensures.short done));
}
