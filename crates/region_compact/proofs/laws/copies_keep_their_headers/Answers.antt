use Rattle.region_compact.proofs.Orders.{CopiesKeepTheirHeaders-all}
use Rattle.region_compact.proofs.laws.copies_keep_their_headers.Goals as goal

pub returns : goal.returns
returns c = CopiesKeepTheirHeaders-all
