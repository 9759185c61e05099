use Rattle.std.proofs.Common.{◌≡◌, ◌++◌, take}
use Rattle.thumb_emit.proofs.pieces.add.Given as goal

abbrev pub invariant-loop-piece : goal.invariant-loop-piece
invariant-loop-piece l = l.out ≡ l.fn.out ++ take l.piece-index l.pieces
