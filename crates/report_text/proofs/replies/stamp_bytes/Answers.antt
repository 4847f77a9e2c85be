use Rattle.std.proofs.Common.{ℕ, ◌<◌, get_or, length, rules, subst}
use Rattle.std.proofs.lemmas.List.Elements.{All-from_get_or}
use Rattle.var_types.specs.Values.{AreBytes}
use Rattle.report_text.proofs.replies.stamp_bytes.Goals as goal

pub returns-clause-values : goal.returns-clause-values
returns-clause-values c =
    let items = c.as_slice-bytes.result.now in
    let small : (k : ℕ) → k < length items → get_or items k 0 < 256 = search rules in
    subst AreBytes c.as_slice-bytes.ensures (All-from_get_or (λ b. b < 256) items 0 small)
