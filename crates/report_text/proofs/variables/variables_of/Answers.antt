use Rattle.std.proofs.Common.{◌≤◌, List, map, sym, ap, subst, ◌∙◌}
use Rattle.report_text.proofs.Held.{held_from, held_region}
use Rattle.report_text.specs.Held.{held_entry}
use Rattle.report_text.proofs.RoomUsed.{room_few}
use Rattle.var_types.specs.declared.key.Key.{Key}
use Rattle.var_types.specs.declared.variable.Variable.{Variable}
use Rattle.var_types.specs.Census.{records_room}
use Rattle.report_text.proofs.variables.variables_of.Goals as goal

pub returns-clause-map : goal.returns-clause-map
returns-clause-map c =
    held_region c.args.region.now c.loop-found.held.entries
    (ap (held_from (map held_entry c.loop-found.held.entries)) (sym c.in-None.ensures.steps.0) ∙ c.loop-found.invariant.held)

pub returns-clause-room : goal.returns-clause-room
returns-clause-room c =
    subst (λ (entries : List (Key × Variable)). records_room entries ≤ 131078)
    (sym
    (held_region c.args.region.now c.loop-found.held.entries
    (ap (held_from (map held_entry c.loop-found.held.entries)) (sym c.in-None.ensures.steps.0) ∙ c.loop-found.invariant.held)))
    (room_few c.args.region.now c.lives-found-items.ensures.few c.lives-found-items.ensures.within)
