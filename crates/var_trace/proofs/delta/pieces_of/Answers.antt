use Rattle.std.proofs.Common.{length}
use Rattle.var_trace.proofs.Pieces.{within_at}
use Rattle.var_trace.proofs.delta.pieces_of.Goals as goal

pub copy-requires-clause-order : goal.copy-requires-clause-order
copy-requires-clause-order c = (within_at c.args.spans.now (length c.args.bytes.now) c.loop-span.span-index _ c.requires c.loop-span-test.true).0

pub copy-requires-clause-within : goal.copy-requires-clause-within
copy-requires-clause-within c = (within_at c.args.spans.now (length c.args.bytes.now) c.loop-span.span-index _ c.requires c.loop-span-test.true).1
