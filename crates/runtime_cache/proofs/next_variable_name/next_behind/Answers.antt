use Rattle.std.proofs.Common.{Option, ap, ◌∙◌}
use Rattle.var_types.specs.Answers.{next_answer}
use Rattle.var_types.specs.declared.call.NextCall.{NextCall}
use Rattle.var_types.specs.declared.key.Key.{Key}
use Rattle.var_types.specs.declared.variable.Variable.{Variable}
use Rattle.var_types.specs.Next.{next_above, next_behind, next_found}
use Rattle.var_types.specs.Stores.{state_seen}
use Rattle.var_region.specs.Wanted.{bound_of}
use Rattle.runtime_cache.proofs.Searches.{bound_named, next_found_key}
use Rattle.runtime_cache.proofs.next_variable_name.next_behind.Goals as goal

pub returns-in-None : goal.returns-in-None
unfolding next_answer
returns-in-None c = λ apart.
    let state = state_seen c.args.non_volatile.now c.args.volatile.now c.args.runtime in
    let call : NextCall = record { guid = c.args.guid.now; name = c.args.name.now; room = c.args.room } in
    ap (λ (o : Option Variable). next_answer (next_behind state call o) c.args.into.now) c.in-None.ensures.variable

pub returns-in-Some : goal.returns-in-Some
returns-in-Some c = λ apart.
    let a = c.args.non_volatile.now in
    let b = c.args.volatile.now in
    let state = state_seen a b c.args.runtime in
    let call : NextCall = record { guid = c.args.guid.now; name = c.args.name.now; room = c.args.room } in
    let bound = bound_of c.args.guid.now c.args.name.now in
    c.answer.ensures
    ∙ ap (λ (k : Option Key). next_answer (next_found k c.args.room) c.args.into.now)
    (next_found_key a b c.args.runtime bound c.above.result (c.above.ensures.entry apart)
    ∙ ap (next_above state) (bound_named c.args.guid.now c.args.name.now c.requires.name))
    ∙ ap (λ (o : Option Variable). next_answer (next_behind state call o) c.args.into.now) c.in-Some.ensures.variable
