use Rattle.std.proofs.Common.{Err, Option, sym, ap, ◌∙◌}
use Rattle.var_types.specs.Answers.{next_answer}
use Rattle.var_types.specs.declared.call.NextCall.{NextCall}
use Rattle.var_types.specs.declared.key.Key.{Key}
use Rattle.var_types.specs.Next.{next_above, next_found, next_named, next_reply}
use Rattle.var_types.specs.Stores.{state_seen}
use Rattle.var_region.specs.Wanted.{bound_of}
use Rattle.runtime_cache.proofs.Searches.{bound_empty, next_found_key}
use Rattle.runtime_cache.proofs.next_variable_name.next.Goals as goal

pub returns-in-Err-Empty : goal.returns-in-Err-Empty
unfolding next_reply next_named
returns-in-Err-Empty c = λ apart.
    let a = c.args.non_volatile.now in
    let b = c.args.volatile.now in
    let state = state_seen a b c.args.runtime in
    let call : NextCall = record { guid = c.args.guid.now; name = c.args.name.now; room = c.args.room } in
    let bound = bound_of c.args.guid.now c.args.name.now in
    c.answer.ensures
    ∙ ap (λ (k : Option Key). next_answer (next_found k c.args.room) c.args.into.now)
    (next_found_key a b c.args.runtime bound c.above.result (c.above.ensures.entry apart)
    ∙ ap (next_above state) (bound_empty c.args.guid.now c.args.name.now (sym c.in-Err-Empty.ensures ∙ ap Err c.in-Err-Empty.field-0-is)))
    ∙ ap (λ named. next_answer (next_named state call named) c.args.into.now) (ap Err (sym c.in-Err-Empty.field-0-is) ∙ c.in-Err-Empty.ensures)
