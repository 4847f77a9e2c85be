use Rattle.mm_message.proofs.Streams.{longest_is_one}
use Rattle.mm_message.proofs.laws.the_longest_list_is_one.Goals as goal

pub returns : goal.returns
returns c = longest_is_one
