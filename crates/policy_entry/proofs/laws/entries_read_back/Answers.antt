use Rattle.std.proofs.Common.{◌<◌, ap, ◌∙◌}
use Rattle.std.proofs.lemmas.List.Elements.{recursion_from_All}
use Rattle.var_types.specs.PolicyEntry.{entry_bytes}
use Rattle.policy_entry.proofs.ReadBack.{read_back}
use Rattle.policy_entry.proofs.Written.{was_read, written}
use Rattle.policy_entry.proofs.laws.entries_read_back.Goals as goal

pub returns-clause-read : goal.returns-clause-read
returns-clause-read c = read_back

pub returns-clause-written : goal.returns-clause-written
returns-clause-written c = λ bytes policy are read.
    let found = was_read bytes policy read in
    ap entry_bytes found.1 ∙ written bytes (recursion_from_All (λ b. b < 256) bytes are) found.0
