use Rattle.std.proofs.Common.{drop}
use Rattle.thumb_layout.proofs.Emitting.{WriteLoop}
use Rattle.thumb_layout.proofs.writer.written.Given as goal

abbrev pub invariant-loop-index : goal.invariant-loop-index
invariant-loop-index l =
    WriteLoop l.pieces (drop l.index l.pieces) (drop l.index l.branch_forms) (drop l.index l.places) (drop l.writer.pools l.pool_starts) l.writer.laid l.writer.waiting.items l.writer.pools
