use Rattle.std.proofs.Common.{ap, sym, ◌∙◌}
use Rattle.std.specs.Prelude.{◌==◌, position}
use Rattle.policy_entry.proofs.FrontNames.{lock_name_in}
use Rattle.var_types.specs.Live.{units_in}
use Rattle.var_types.specs.PolicyEntry.{is_name}
use Rattle.policy_entry.proofs.checks.state_name.Goals as goal

pub returns-clause-none : goal.returns-clause-none
returns-clause-none c = λ none.
    ap (λ rest. is_name (position (λ unit. unit == 0) (units_in rest))) (sym c.from_offset.ensures) ∙ c.front_name.ensures.none none

pub returns-clause-some : goal.returns-clause-some
returns-clause-some c =
    lock_name_in c.args.bytes.now c.from_offset.result.now c.front_name.result c.from_offset.ensures c.requires.whole c.requires.state
    c.front_name.ensures.some
