use Rattle.std.proofs.Common.{◌≡◌, ◌≤◌, ◌<◌, true, refl, sym, ap, subst, ◌∙◌, arith}
use Rattle.mm_writer.proofs.Phases.{answered_phase, answered_same, entered_side, engine_phase}
use Rattle.mm_writer.proofs.Sides.{means_now}
use Rattle.mm_writer.proofs.Unwritten.{exit_ends, exit_full, exit_same}
use Rattle.mm_writer.specs.Books.{entered_in}
use Rattle.mm_writer.specs.Engine.{IsEngine, side_by}
use Rattle.mm_writer.specs.Outcome.{IsAnswered, entry_after}
use Rattle.mm_writer.specs.Side.{Side, state_of}
use Rattle.var_types.specs.declared.call.Call.TheVariants.{ExitBoot}
use Rattle.var_types.specs.declared.reply.ExitReply.TheVariants.{HistoryFull, Ok as Ended, Same}
use Rattle.var_types.specs.declared.reply.Reply.TheVariants.{Exit as ExitReplied}
use Rattle.var_types.specs.History.{Entry}
use Rattle.mm_writer.proofs.engine.Engine.exit_boot.Goals as goal

pub returns-then-self-clause-answered : goal.returns-then-self-clause-answered
returns-then-self-clause-answered g c =
    let e = c.self.inside in
    let side : Side = side_by e.opened.value.1.0 e.store.1.0 e.volatile e.books in
    subst (λ v. IsAnswered v.1.1 v.1.1 c.args.processor c.args.index ExitBoot (ExitReplied Same)) c.self.view_is
    (answered_same side c.args.processor c.args.index ExitBoot (ExitReplied Same) (state_of side)
    (exit_same (state_of side) (sym (means_now side c.self.invariant.kept.consistent).phase ∙ c.if-self.true)) refl refl)

pub returns-then-limit-made-clause-answered : goal.returns-then-limit-made-clause-answered
returns-then-limit-made-clause-answered g c =
    let e = c.self.inside in
    let side : Side = side_by e.opened.value.1.0 e.store.1.0 e.volatile e.books in
    let kept = c.self.invariant.kept.consistent in
    let made : (state_of side).made ≡ c.len-made.result = kept.made ∙ sym c.len-made.ensures.len in
    let full : (state_of side).limit ≤ (state_of side).made = omega (arith, made, kept.limit, c.limit.ensures, c.if-limit-made.true) in
    subst (λ v. IsAnswered v.1.1 v.1.1 c.args.processor c.args.index ExitBoot (ExitReplied (HistoryFull c.len-made.result))) c.self.view_is
    (answered_same side c.args.processor c.args.index ExitBoot (ExitReplied (HistoryFull c.len-made.result)) (state_of side)
    (exit_full (state_of side) (sym (means_now side kept).phase ∙ c.if-self.false) full ∙ ap (λ n. (ExitReplied (HistoryFull n), state_of side)) made) refl refl)

pub invariant_of-self : goal.invariant_of-self
invariant_of-self g c =
    let e = c.self.inside in
    let side : Side = side_by e.opened.value.1.0 e.store.1.0 e.volatile e.books in
    let kept = c.self.invariant.kept.consistent in
    let more : (state_of side).made < (state_of side).limit =
    omega (arith, kept.made, kept.limit, c.len-made.ensures.len, c.limit.ensures, c.if-limit-made.false) in
    let entry = entry_after side c.args.processor c.args.index ExitBoot in
    let entered =
    entered_side e.opened.value.1.0 e.store.1.0 e.volatile e.books c.enter_in.new.self entry true
    (c.enter_in.ensures
    ∙ ap (λ (n : Entry). entered_in e.books n true)
    (c.entry-entry.ensures ∙ ap (λ v. entry_after v.1.1 c.args.processor c.args.index ExitBoot) (sym c.self.view_is))) in
    subst (λ (s : Side). IsEngine s e.totals e.policies e.failed e.store.1.1) (sym entered)
    (engine_phase c.agreement_grows_with_the_ranges.ensures.grows c.agreement_grows_with_the_ranges.ensures.same side e.totals e.policies e.policies
    c.self.invariant.kept c.args.processor c.args.index ExitBoot (ExitReplied Ended) true _
    (exit_ends (state_of side) (sym (means_now side kept).phase ∙ c.if-self.false) more) refl refl refl refl c.self.invariant.kept.policies
    e.failed e.store.1.1 c.self.invariant.doubted)

pub returns-clause-answered : goal.returns-clause-answered
returns-clause-answered g c =
    let e = c.self.inside in
    let side : Side = side_by e.opened.value.1.0 e.store.1.0 e.volatile e.books in
    let kept = c.self.invariant.kept.consistent in
    let more : (state_of side).made < (state_of side).limit =
    omega (arith, kept.made, kept.limit, c.len-made.ensures.len, c.limit.ensures, c.if-limit-made.false) in
    let entry = entry_after side c.args.processor c.args.index ExitBoot in
    let entered =
    entered_side e.opened.value.1.0 e.store.1.0 e.volatile e.books c.enter_in.new.self entry true
    (c.enter_in.ensures
    ∙ ap (λ (n : Entry). entered_in e.books n true)
    (c.entry-entry.ensures ∙ ap (λ v. entry_after v.1.1 c.args.processor c.args.index ExitBoot) (sym c.self.view_is))) in
    subst (λ v. IsAnswered v.1.1 (side_by e.opened.value.1.0 e.store.1.0 e.volatile c.enter_in.new.self) c.args.processor c.args.index ExitBoot (ExitReplied Ended))
    c.self.view_is
    (subst (λ (s : Side). IsAnswered side s c.args.processor c.args.index ExitBoot (ExitReplied Ended)) (sym entered)
    (answered_phase c.agreement_grows_with_the_ranges.ensures.grows c.agreement_grows_with_the_ranges.ensures.same side e.totals e.policies e.policies
    c.self.invariant.kept c.args.processor c.args.index ExitBoot (ExitReplied Ended) true _
    (exit_ends (state_of side) (sym (means_now side kept).phase ∙ c.if-self.false) more) refl refl refl refl c.self.invariant.kept.policies refl refl))
