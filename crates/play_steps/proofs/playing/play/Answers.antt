use Rattle.std.proofs.Common.{◌≡◌, ◌<◌, ◌≤◌, ℕ, List, Vec, Global, All, length, map, sym, ap, subst, ◌∙◌}
use Rattle.std.proofs.lemmas.List.{get_or-map, length-map}
use Rattle.script_text.specs.Schedule.{PlayParts}
use Rattle.svc_core.specs.Progress.{most_calls}
use Rattle.var_types.specs.declared.call.Call.{Call}
use Rattle.play_steps.proofs.playing.play.Goals as goal

pub play_calls-requires-clause-short : goal.play_calls-requires-clause-short
play_calls-requires-clause-short c = λ k d within.
    let items = λ (v : Vec Call Global). v.items in
    let lists = c.into_processors.result.items in
    let same : map items lists ≡ c.in_ok-play.play.calls = c.into_processors.ensures ∙ ap (λ (p : PlayParts). p.calls) c.play.view_is in
    let short : All (λ (calls : List Call). length calls ≤ most_calls) (map items lists) =
    subst (All (λ (calls : List Call). length calls ≤ most_calls)) (sym same) c.in_ok-play.ensures.short
    in
    subst (λ (calls : List Call). length calls ≤ most_calls) (get_or-map items lists k d d.items within)
    (short k d.items (subst (λ (n : ℕ). k < n) (sym (length-map lists items)) within))
