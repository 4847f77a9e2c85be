use Rattle.std.proofs.Common.{ap}
use Rattle.mm_writer.proofs.Cached.{behind_merged}
use Rattle.mm_writer.proofs.merging_tests.merge.Goals as goal

pub returns : goal.returns
returns g c =
    behind_merged c.args.engine.now.1.1 c.merge_into.new.self.1.1 c.merge_into.new.cache (ap (λ v. v.1.1) c.merge_into.ensures.side) c.merge_into.ensures.bytes
