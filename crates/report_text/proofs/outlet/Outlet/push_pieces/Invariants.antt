use Rattle.std.proofs.Common.{◌≡◌, ℕ, List, ◌++◌, length}
use Rattle.hex.specs.Hex.{encode_lower}
use Rattle.report_text.specs.Flow.{PutsThrough}
use Rattle.report_text.proofs.outlet.Outlet.push_pieces.Given as goal

abbrev pub invariant-pieces : goal.invariant-pieces
invariant-pieces g l = record {
  put : (front : List ℕ) × (front ++ l.rest ≡ l.bytes) × PutsThrough (record { held = g.K.Sink.holds l.initial.self.sink.now; faults = g.K.Sink.fault_count l.initial.self.sink.now; kept = l.initial.self.page.now }) (record { held = g.K.Sink.holds l.self.sink.now; faults = g.K.Sink.fault_count l.self.sink.now; kept = l.self.page.now }) (encode_lower front);
  same_sink : l.self.sink.ghost_name ≡ l.initial.self.sink.ghost_name;
  same_page : l.self.page.ghost_name ≡ l.initial.self.page.ghost_name;
}

abbrev pub decreases-pieces : goal.decreases-pieces
decreases-pieces g l = length l.rest
