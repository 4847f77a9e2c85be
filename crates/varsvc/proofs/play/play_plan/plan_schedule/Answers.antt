use Rattle.varsvc.proofs.Plays.{play_is_short, played_text}
use Rattle.varsvc.proofs.play.play_plan.plan_schedule.Goals as goal

pub returns-in-Ok-clause-text : goal.returns-in-Ok-clause-text
returns-in-Ok-clause-text c = λ told same values.
    let played = c.in-Ok.ensures.played in
    played_text told c.args.input.now same played.0 c.in-Ok.played.session c.in-Ok.played.kept c.plan_session.result played.1 played.2
    c.plan_session.ensures values

pub returns-in-Ok-clause-short : goal.returns-in-Ok-clause-short
returns-in-Ok-clause-short c = λ done. let played = c.in-Ok.ensures.played in play_is_short c.args.input.now played.0 played.1
