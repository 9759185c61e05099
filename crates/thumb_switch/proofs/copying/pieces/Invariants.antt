use Rattle.std.proofs.Common.{◌≡◌, take}
use Rattle.thumb_switch.specs.Routine.{routine_pieces}
use Rattle.thumb_switch.proofs.copying.pieces.Given as goal

abbrev pub invariant-loop-piece : goal.invariant-loop-piece
invariant-loop-piece l = l.all ≡ take l.piece-index routine_pieces
