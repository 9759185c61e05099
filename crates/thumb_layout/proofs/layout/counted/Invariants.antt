use Rattle.std.proofs.Common.{◌≡◌, ◌≤◌, ◌+◌, drop}
use Rattle.thumb_layout.specs.Rounds.{counted}
use Rattle.thumb_layout.proofs.layout.counted.Given as goal

abbrev pub invariant-loop-piece : goal.invariant-loop-piece
invariant-loop-piece l = (l.count + counted (drop l.piece-index l.pieces) ≡ counted l.pieces) × (l.count ≤ l.piece-index)
