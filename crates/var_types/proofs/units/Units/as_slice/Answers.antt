use Rattle.std.proofs.Common.{ℕ, ◌<◌, get_or, length, rules, subst, ◌∙◌}
use Rattle.std.proofs.lemmas.List.Elements.{All-from_get_or}
use Rattle.var_types.specs.Values.{AreUnits}
use Rattle.var_types.proofs.units.Units.as_slice.Goals as goal

pub returns-clause-values : goal.returns-clause-values
returns-clause-values c =
    let items = c.as_slice-items.result.now in
    let small : (k : ℕ) → k < length items → get_or items k 0 < 65536 = search rules in
    subst AreUnits (c.as_slice-items.ensures.value ∙ c.self.view_is) (All-from_get_or (λ u. u < 65536) items 0 small)
