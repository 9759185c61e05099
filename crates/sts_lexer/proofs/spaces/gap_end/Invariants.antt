use Rattle.std.proofs.Common.{◌-◌, ◌≤◌, List, ℕ, length}
use Rattle.sts_lexer.specs.Spaces.{IsGap}
use Rattle.sts_lexer.proofs.spaces.gap_end.Given as goal

abbrev pub invariant-loop-at : goal.invariant-loop-at
invariant-loop-at l = (l.from ≤ l.at) × (l.at ≤ length l.text) × ((places : List ℕ) × IsGap l.text l.from places l.at)

abbrev pub decreases-loop-at : goal.decreases-loop-at
decreases-loop-at l = length l.text - l.at
