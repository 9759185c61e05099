use Rattle.std.proofs.Common.{◌≤◌, length, drop}
use Rattle.thumb_layout.specs.Placing.{Indexes}
use Rattle.thumb_layout.proofs.targets.labels_of.Given as goal

abbrev pub invariant-loop-rest : goal.invariant-loop-rest
invariant-loop-rest l = Indexes l.labels l.rest (drop l.rest l.pieces) × (l.rest ≤ length l.pieces)

abbrev pub decreases-loop-rest : goal.decreases-loop-rest
decreases-loop-rest l = l.rest
