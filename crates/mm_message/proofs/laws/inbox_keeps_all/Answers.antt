use Rattle.std.proofs.Common.{◌<◌}
use Rattle.std.proofs.lemmas.List.Elements.{recursion_from_All}
use Rattle.mm_message.proofs.Streams.{kept, pieces_dont_matter}
use Rattle.mm_message.proofs.laws.inbox_keeps_all.Goals as goal

pub returns-clause-kept : goal.returns-clause-kept
returns-clause-kept c = λ held end acts are steps. kept held end acts (recursion_from_All (λ b. b < 256) held are) steps

pub returns-clause-pieces : goal.returns-clause-pieces
returns-clause-pieces c = pieces_dont_matter
