use Rattle.std.proofs.Common.{◌≤◌, ◌<◌, ℕ}
use Rattle.sts_lexer.specs.Spaces.{Closes}
use Rattle.sts_lexer.proofs.spaces.closing.Given as goal

abbrev pub invariant-loop-at : goal.invariant-loop-at
invariant-loop-at l = (k : ℕ) → l.from ≤ k → k < l.at → Closes l.text k → ⊥
