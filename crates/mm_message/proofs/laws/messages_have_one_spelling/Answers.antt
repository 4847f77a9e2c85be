use Rattle.std.proofs.Common.{◌<◌, sym}
use Rattle.std.proofs.lemmas.List.Elements.{recursion_from_All}
use Rattle.mm_message.proofs.Read.{read_back}
use Rattle.mm_message.proofs.Spelled.{taken_spelled}
use Rattle.mm_message.proofs.Streams.{none_begins_another}
use Rattle.mm_message.proofs.laws.messages_have_one_spelling.Goals as goal

pub returns-clause-read : goal.returns-clause-read
returns-clause-read c = λ processor call rest fits. let is = read_back processor call rest fits in (is.taken, is.behind)

pub returns-clause-spelled : goal.returns-clause-spelled
returns-clause-spelled c = λ bytes processor call are taken.
    let off = taken_spelled bytes processor call (recursion_from_All (λ b. b < 256) bytes are) taken in
    (off.fits, sym off.same)

pub returns-clause-prefix : goal.returns-clause-prefix
returns-clause-prefix c = none_begins_another
