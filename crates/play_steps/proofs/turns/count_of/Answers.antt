use Rattle.std.proofs.Common.{◌≡◌, ℕ, List, Some, None, length, sym, ap, ap₂, ◌∙◌}
use Rattle.std.proofs.lemmas.Option.{slice_get-get_or, slice_get_past}
use Rattle.std.specs.Prelude.{slice_get}
use Rattle.var_trace.specs.Answers.{AnsweredCalls}
use Rattle.var_trace.specs.Session.{SessionParts}
use Rattle.play_steps.proofs.Schedules.{answers_of_one}
use Rattle.play_steps.proofs.turns.count_of.Goals as goal

pub returns-in-Some : goal.returns-in-Some
returns-in-Some c =
    let all = c.session.result.now.processors in
    let found = c.in-Some.answers.now in
    let there : slice_get c.deref.result.now c.from.result ≡ Some found =
    slice_get-get_or c.deref.result.now c.from.result found c.in-Some.ensures.lookup.3.0 ∙ ap Some (sym c.in-Some.ensures.lookup.1) in
    let same : all ≡ c.deref.result.now = sym (c.deref.ensures.value ∙ ap (λ (s : SessionParts). s.processors) c.behind-world.view_is) in
    let here : slice_get all c.args.processor ≡ Some found =
    ap₂ (λ (xs : List AnsweredCalls) (q : ℕ). slice_get xs q) same (sym c.from.ensures) ∙ there in
    ap length
    (c.as_slice.ensures.answered
    ∙ sym (answers_of_one all c.args.world.now.world.processors c.args.processor c.session.ensures.answers (Some found) here))

pub returns-in-None : goal.returns-in-None
returns-in-None c =
    let all = c.session.result.now.processors in
    let there : slice_get c.deref.result.now c.from.result ≡ None = slice_get_past c.deref.result.now c.from.result c.in-None.ensures.lookup.3 in
    let same : all ≡ c.deref.result.now = sym (c.deref.ensures.value ∙ ap (λ (s : SessionParts). s.processors) c.behind-world.view_is) in
    let here : slice_get all c.args.processor ≡ None =
    ap₂ (λ (xs : List AnsweredCalls) (q : ℕ). slice_get xs q) same (sym c.from.ensures) ∙ there in
    ap length (sym (answers_of_one all c.args.world.now.world.processors c.args.processor c.session.ensures.answers None here))
