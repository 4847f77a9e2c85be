use Rattle.std.proofs.Common.{ℕ, ◌<◌, get_or, length, rules}
use Rattle.std.proofs.lemmas.List.Elements.{All-from_get_or}
use Rattle.var_types.proofs.guid.uuid_of.Goals as goal

pub returns-clause-values : goal.returns-clause-values
returns-clause-values c =
    let small : (k : ℕ) → k < length c.args.bytes.now → get_or c.args.bytes.now k 0 < 256 = search rules in
    All-from_get_or (λ b. b < 256) c.args.bytes.now 0 small
