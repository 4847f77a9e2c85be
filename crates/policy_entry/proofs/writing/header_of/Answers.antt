use Rattle.std.proofs.Common.{rules}
use Rattle.policy_entry.proofs.Sizes.{header_is}
use Rattle.policy_entry.proofs.writing.header_of.Goals as goal

pub returns : goal.returns
returns c = header_is c.args.policy.now c.write_front.new.into c.write_back.new.into (search rules) c.write_front.ensures c.write_back.ensures
