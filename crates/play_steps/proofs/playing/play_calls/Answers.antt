use Rattle.std.proofs.Common.{◌≡◌, Option, Result, Ok, Err, map, ap, subst}
use Rattle.std.specs.Prelude.{IfOk}
use Rattle.script_text.specs.declared.power_loss.PowerLoss.{PowerLoss}
use Rattle.script_text.specs.Schedule.{ScheduleParts}
use Rattle.play_steps.specs.declared.played.Played.{Played}
use Rattle.play_steps.specs.Play.{content_left}
use Rattle.play_steps.proofs.Plays.{played}
use Rattle.play_steps.proofs.playing.play_calls.Goals as goal

-- three facts of a result, and what follows of them
if_ok : {A E : Type 0} (r : Result A E) (P Q R S : A → Type 0) → ((x : A) → P x → Q x → R x → S x) → IfOk r P → IfOk r Q → IfOk r R → IfOk r S
if_ok (Ok x) P Q R S f p q r = f x p q r
if_ok (Err e) P Q R S f p q r = tt

pub returns-clause-played : goal.returns-clause-played
returns-clause-played c =
    let calls = map (λ v. v.items) c.args.calls.items in
    let behind = c.run_schedule.new.world.world in
    let left =
    subst (λ (power : Option PowerLoss). IfOk c.finish.result (λ (x : Played). x.kept ≡ content_left power behind.writer.flash))
    (ap (λ (s : ScheduleParts). s.power) c.schedule.view_is) c.finish.ensures.left
    in
    if_ok c.finish.result _ _ _ _
    (λ (x : Played) log answers is. played calls c.args.schedule.now c.in_ok-world.world c.run_schedule.new.world x.session x.kept
    c.in_ok-world.ensures c.in_ok-run_schedule.ensures.ran c.in_ok-run_schedule.ensures.lost log answers is c.finish.ensures.legal c.finish.ensures.keeps)
    c.finish.ensures.log c.finish.ensures.answers left
