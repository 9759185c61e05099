use Rattle.std.proofs.Common.{◌≡◌, map, take}
use Rattle.thumb_layout.specs.Placing.{target_of}
use Rattle.thumb_layout.proofs.targets.targets_of.Given as goal

abbrev pub invariant-loop-piece : goal.invariant-loop-piece
invariant-loop-piece l = l.targets.items ≡ map (target_of l.pieces) (take l.piece-index l.pieces)
