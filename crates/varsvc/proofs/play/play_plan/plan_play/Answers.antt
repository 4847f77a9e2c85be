use Rattle.std.proofs.Common.{sym, subst}
use Rattle.varsvc.specs.Input.{IsInput}
use Rattle.varsvc.proofs.Plays.{plays_same}
use Rattle.varsvc.proofs.play.play_plan.plan_play.Goals as goal

pub returns-in-Ok-clause-text : goal.returns-in-Ok-clause-text
returns-in-Ok-clause-text g c =
    let left = g.S.Source.left c.args.source.now in
    c.plan_schedule.ensures.text left (plays_same left c.as_slice.result.now (subst (IsInput left) (sym c.as_slice.ensures.items) c.in-Ok.ensures.bytes))
