use Rattle.std.proofs.Common.{ℕ, ◌<◌, get_or, length, rules}
use Rattle.std.proofs.lemmas.List.Elements.{All-from_get_or}
use Rattle.mm_message.proofs.writing.put_guid.Goals as goal

pub returns-clause-values : goal.returns-clause-values
returns-clause-values g c =
    let small : (k : ℕ) → k < length c.args.guid.bytes → get_or c.args.guid.bytes k 0 < 256 = search rules in
    (search rules, All-from_get_or (λ b. b < 256) c.args.guid.bytes 0 small)
