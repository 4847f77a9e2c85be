use Rattle.std.proofs.Common.{◌≡◌, ◌∙◌, Result, Ok, ap, subst}
use Rattle.varsvc.specs.declared.words.order.Order.{Order}
use Rattle.varsvc.specs.declared.words.order.Order.TheVariants.{Play}
use Rattle.varsvc.specs.declared.words.usage.UsageFault.{UsageFault}
use Rattle.varsvc.specs.Order.{GivesOrder, asked}
use Rattle.varsvc.proofs.Plays.{leaves_same, stays_same}
use Rattle.varsvc.proofs.Usages.{usage_text}
use Rattle.varsvc.proofs.Refusals.{untouched_same}
use Rattle.varsvc.proofs.asked_plan.plan_asked.Goals as goal

pub returns-clause-text : goal.returns-clause-text
returns-clause-text g c = λ values.
    usage_text _ _
    (untouched_same g.F.Flash.holds g.F.Flash.size g.F.Flash.fault_count g.F.Flash.moment g.F.Flash.left_since (g.S.Source.left c.args.script.now) c.args.image
    (g.met.F.Flash.only_now c.args.image))
    c.plan_usage.result c.in-Err.fault c.in-Err.ensures c.plan_usage.ensures.memory c.plan_usage.ensures.text

-- the words ask for a play
play_asked : (read found : Result Order UsageFault) → found ≡ Ok Play → GivesOrder found read → read ≡ Ok Play
play_asked read found is given = subst (λ (f : Result Order UsageFault). GivesOrder f read) is given

pub returns-in-Ok-Play-clause-leaves : goal.returns-in-Ok-Play-clause-leaves
returns-in-Ok-Play-clause-leaves g c = λ other.
    leaves_same g.F.Flash.holds (asked c.args.words.now) _ c.args.image c.plan_played.result.image
    (play_asked (asked c.args.words.now) c.read_words.result (c.in-Ok-Play.is ∙ ap Ok c.in-Ok-Play.field-0-is) c.read_words.ensures) c.plan_played.ensures.image _ _

pub returns-in-Ok-Play-clause-at_any_moment : goal.returns-in-Ok-Play-clause-at_any_moment
returns-in-Ok-Play-clause-at_any_moment g c = λ other.
    stays_same g.F.Flash.holds (asked c.args.words.now) _ c.args.image c.plan_played.result.image
    (play_asked (asked c.args.words.now) c.read_words.result (c.in-Ok-Play.is ∙ ap Ok c.in-Ok-Play.field-0-is) c.read_words.ensures) c.plan_played.ensures.image _ _
