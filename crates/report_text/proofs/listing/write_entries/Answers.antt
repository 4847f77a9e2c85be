use Rattle.std.proofs.Common.{List, ℕ, ◌++◌, map, flat_map, sym, ap, ◌∙◌, append_assoc}
use Rattle.report_text.specs.Held.{entry_of}
use Rattle.report_text.specs.Listing.{variable_line}
use Rattle.report_text.proofs.listing.write_entries.Goals as goal

pub loop-key-preserved : goal.loop-key-preserved
loop-key-preserved g c =
    let front : List ℕ = c.loop-key.invariant.0 in
    let line : List ℕ = variable_line (entry_of (c.in-Some.key.now, c.in-Some.found.now)) in (
      front ++ line,
      append_assoc front line (flat_map variable_line (map entry_of c.next.new.self))
          ∙ ap (λ entries. front ++ flat_map variable_line (map entry_of entries)) (sym c.in-Some.ensures.steps)
          ∙ c.loop-key.invariant.1,
      g.met.P.Put.joined _ _ _ _ _ c.loop-key.invariant.2 c.write_variable.ensures,
    )
