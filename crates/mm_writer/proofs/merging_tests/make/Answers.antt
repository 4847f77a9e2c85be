use Rattle.mm_writer.proofs.Cached.{behind_answered}
use Rattle.mm_writer.proofs.merging_tests.make.Goals as goal

pub returns : goal.returns
returns c = behind_answered c.args.engine.now.1.1 c.set.new.self.1.1 _ _ _ _ c.set.ensures.answered c.args.cache.now c.requires
