use Rattle.std.proofs.Common.{◌≡◌, ◌++◌, ℕ, List, map, flat_map}
use Rattle.report_text.specs.Held.{entry_of}
use Rattle.report_text.specs.Listing.{variable_line}
use Rattle.report_text.proofs.listing.write_entries.Given as goal

abbrev pub invariant-loop-key : goal.invariant-loop-key
invariant-loop-key g l =
    (front : List ℕ) × (front ++ flat_map variable_line (map entry_of l.key-iterator) ≡ flat_map variable_line (map entry_of l.held.entries))
    × g.P.Put.Puts l.initial.out l.out front
