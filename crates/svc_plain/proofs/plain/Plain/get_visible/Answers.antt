use Rattle.set_rules.proofs.Rooms.{all_short}
use Rattle.svc_plain.proofs.plain.Plain.get_visible.Goals as goal

pub get_stored-requires : goal.get_stored-requires
get_stored-requires c = all_short c.self.inside.totals c.self.inside.variables.entries c.self.invariant
