use Rattle.std.proofs.Common.{sym, ◌∙◌}
use Rattle.var_types.proofs.Sessions.{run_from_changes, state_left-run}
use Rattle.var_types.specs.Session.{history_of}
use Rattle.var_types.proofs.laws.changes_decide_the_state.Goals as goal

pub returns-clause-run : goal.returns-clause-run
returns-clause-run c = λ state processor answered stepped. state_left-run state processor 0 answered stepped

pub returns-clause-same : goal.returns-clause-same
returns-clause-same c = λ state xs ys first second same.
    state_left-run state 0 0 xs first ∙ run_from_changes state (history_of xs) (history_of ys) same ∙ sym (state_left-run state 0 0 ys second)
