use Rattle.std.proofs.Common.{refl, sym, ap, subst, ◌∙◌}
use Rattle.mm_writer.proofs.Phases.{answered_phase, entered_side, engine_phase}
use Rattle.mm_writer.proofs.Sides.{means_now}
use Rattle.mm_writer.proofs.Unwritten.{left_by, policy_counted, policy_is, policy_limit, policy_room, policy_unchanged}
use Rattle.mm_writer.specs.Books.{entered_in}
use Rattle.mm_writer.specs.Engine.{IsEngine, side_by}
use Rattle.mm_writer.specs.Outcome.{IsAnswered, entry_after}
use Rattle.mm_writer.specs.Side.{Side, state_of}
use Rattle.var_types.proofs.Steps.{memory_from_change}
use Rattle.var_types.specs.declared.call.Call.TheVariants.{Policy as PolicyCalled}
use Rattle.var_types.specs.declared.reply.Reply.TheVariants.{Policy as PolicyReplied}
use Rattle.var_types.specs.History.{Entry}
use Rattle.mm_writer.proofs.engine.Engine.answer_policy.Goals as goal

pub invariant_of-self : goal.invariant_of-self
invariant_of-self g c =
    let e = c.self.inside in
    let side : Side = side_by e.opened.value.1.0 e.store.1.0 e.volatile e.books in
    record {
      kept =
          (policy_unchanged side e.totals e.policies c.self.invariant.kept c.args.caller.processor c.args.caller.index c.args.call.now c.answer-reply.result
          c.answer-reply.new.self c.len-made.result c.answer-reply.new.made c.limit-limit.result c.len-made.ensures.len c.limit-limit.ensures
          (c.answer-reply.ensures.done (state_of side)) (λ h. (c.answer-reply.ensures.memory h).0) (sym c.is_change.ensures ∙ c.if-not-is_change.true)).0;
      doubted = c.self.invariant.doubted;
    }

pub returns-then-not-is_change-clause-answered : goal.returns-then-not-is_change-clause-answered
returns-then-not-is_change-clause-answered g c =
    let e = c.self.inside in
    let side : Side = side_by e.opened.value.1.0 e.store.1.0 e.volatile e.books in
    subst (λ v. IsAnswered v.1.1 side c.args.caller.processor c.args.caller.index (PolicyCalled c.args.call.now) (PolicyReplied c.answer-reply.result))
    c.self.view_is
    (policy_unchanged side e.totals e.policies c.self.invariant.kept c.args.caller.processor c.args.caller.index c.args.call.now c.answer-reply.result
    c.answer-reply.new.self c.len-made.result c.answer-reply.new.made c.limit-limit.result c.len-made.ensures.len c.limit-limit.ensures
    (c.answer-reply.ensures.done (state_of side)) (λ h. (c.answer-reply.ensures.memory h).0) (sym c.is_change.ensures ∙ c.if-not-is_change.true)).1

pub enter_in-requires : goal.enter_in-requires
enter_in-requires g c =
    let e = c.self.inside in
    let side : Side = side_by e.opened.value.1.0 e.store.1.0 e.volatile e.books in
    let changes = sym c.is_change.ensures ∙ c.if-not-is_change.false in
    policy_room side e.totals e.policies c.self.invariant.kept c.args.call.now c.answer-reply.result c.answer-reply.new.self c.len-made.result
    c.answer-reply.new.made c.limit-limit.result c.len-made.ensures.len c.limit-limit.ensures
    (c.answer-reply.ensures.done (state_of side)
    (memory_from_change (PolicyCalled c.args.call.now) (PolicyReplied c.answer-reply.result) changes))
    changes

pub invariant_of-self-2 : goal.invariant_of-self-2
invariant_of-self-2 g c =
    let e = c.self.inside in
    let call = c.args.call.now in
    let reply = c.answer-reply.result in
    let after = c.answer-reply.new.self in
    let side : Side = side_by e.opened.value.1.0 e.store.1.0 e.volatile e.books in
    let changes = sym c.is_change.ensures ∙ c.if-not-is_change.false in
    let is = c.answer-reply.ensures.done (state_of side) (memory_from_change (PolicyCalled call) (PolicyReplied reply) changes) in
    let entry = entry_after side c.args.caller.processor c.args.caller.index (PolicyCalled call) in
    let entered =
    entered_side e.opened.value.1.0 e.store.1.0 e.volatile e.books c.enter_in.new.self entry e.books.runtime
    (c.enter_in.ensures
    ∙ ap (λ (n : Entry). entered_in e.books n e.books.runtime)
    (c.requires
    ∙ ap (λ v. entry_after v.1.1 c.args.caller.processor c.args.caller.index (PolicyCalled call)) (sym c.self.view_is))) in
    subst (λ (s : Side). IsEngine s e.totals after e.failed e.store.1.1) (sym entered)
    (engine_phase c.agreement_grows_with_the_ranges.ensures.grows c.agreement_grows_with_the_ranges.ensures.same side e.totals e.policies after
    c.self.invariant.kept c.args.caller.processor c.args.caller.index (PolicyCalled call) (PolicyReplied reply) e.books.runtime
    (left_by side e.totals e.policies c.self.invariant.kept call reply after c.len-made.result c.answer-reply.new.made c.limit-limit.result
    c.len-made.ensures.len c.limit-limit.ensures is)
    (policy_is side e.totals e.policies c.self.invariant.kept call reply after c.len-made.result c.answer-reply.new.made c.limit-limit.result
    c.len-made.ensures.len c.limit-limit.ensures is)
    refl (sym (means_now side c.self.invariant.kept.consistent).phase)
    (policy_counted side e.totals e.policies c.self.invariant.kept call reply after c.len-made.result c.answer-reply.new.made c.limit-limit.result
    c.len-made.ensures.len c.limit-limit.ensures is changes)
    (policy_limit side e.totals e.policies c.self.invariant.kept call reply after c.len-made.result c.answer-reply.new.made c.limit-limit.result
    c.len-made.ensures.len c.limit-limit.ensures is)
    refl e.failed e.store.1.1 c.self.invariant.doubted)

pub returns-clause-answered : goal.returns-clause-answered
returns-clause-answered g c =
    let e = c.self.inside in
    let call = c.args.call.now in
    let reply = c.answer-reply.result in
    let after = c.answer-reply.new.self in
    let side : Side = side_by e.opened.value.1.0 e.store.1.0 e.volatile e.books in
    let changes = sym c.is_change.ensures ∙ c.if-not-is_change.false in
    let is = c.answer-reply.ensures.done (state_of side) (memory_from_change (PolicyCalled call) (PolicyReplied reply) changes) in
    let entry = entry_after side c.args.caller.processor c.args.caller.index (PolicyCalled call) in
    let entered =
    entered_side e.opened.value.1.0 e.store.1.0 e.volatile e.books c.enter_in.new.self entry e.books.runtime
    (c.enter_in.ensures
    ∙ ap (λ (n : Entry). entered_in e.books n e.books.runtime)
    (c.requires
    ∙ ap (λ v. entry_after v.1.1 c.args.caller.processor c.args.caller.index (PolicyCalled call)) (sym c.self.view_is))) in
    subst (λ v. IsAnswered v.1.1 (side_by e.opened.value.1.0 e.store.1.0 e.volatile c.enter_in.new.self) c.args.caller.processor c.args.caller.index (PolicyCalled call) (PolicyReplied reply))
    c.self.view_is
    (subst (λ (s : Side). IsAnswered side s c.args.caller.processor c.args.caller.index (PolicyCalled call) (PolicyReplied reply)) (sym entered)
    (answered_phase c.agreement_grows_with_the_ranges.ensures.grows c.agreement_grows_with_the_ranges.ensures.same side e.totals e.policies after
    c.self.invariant.kept c.args.caller.processor c.args.caller.index (PolicyCalled call) (PolicyReplied reply) e.books.runtime
    (left_by side e.totals e.policies c.self.invariant.kept call reply after c.len-made.result c.answer-reply.new.made c.limit-limit.result
    c.len-made.ensures.len c.limit-limit.ensures is)
    (policy_is side e.totals e.policies c.self.invariant.kept call reply after c.len-made.result c.answer-reply.new.made c.limit-limit.result
    c.len-made.ensures.len c.limit-limit.ensures is)
    refl (sym (means_now side c.self.invariant.kept.consistent).phase)
    (policy_counted side e.totals e.policies c.self.invariant.kept call reply after c.len-made.result c.answer-reply.new.made c.limit-limit.result
    c.len-made.ensures.len c.limit-limit.ensures is changes)
    (policy_limit side e.totals e.policies c.self.invariant.kept call reply after c.len-made.result c.answer-reply.new.made c.limit-limit.result
    c.len-made.ensures.len c.limit-limit.ensures is)
    refl changes refl))
