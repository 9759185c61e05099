use Rattle.std.proofs.Common.{arith}
use Rattle.thumb_layout.proofs.Emitting.{next_start, no_start}
use Rattle.thumb_layout.proofs.writer.next_pool.Goals as goal

pub returns-then-passed-pool_starts : goal.returns-then-passed-pool_starts
returns-then-passed-pool_starts c = next_start c.args.pool_starts.now c.args.passed (omega arith)

pub returns-else-passed-pool_starts : goal.returns-else-passed-pool_starts
returns-else-passed-pool_starts c = no_start c.args.pool_starts.now c.args.passed (omega arith)
