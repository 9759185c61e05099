use Rattle.std.proofs.Common.{◌-◌, ◌≤◌, ◌<◌, ◌≡◌, ℕ, false}
use Rattle.std.specs.Prelude.{slice_index}
use Rattle.sts_lexer.specs.Bytes.{is_break}
use Rattle.sts_lexer.proofs.bytes.has_break.Given as goal

abbrev pub invariant-loop-at : goal.invariant-loop-at
invariant-loop-at l = (l.from ≤ l.at) × ((k : ℕ) → l.from ≤ k → k < l.at → is_break (slice_index l.text k) ≡ false)

abbrev pub decreases-loop-at : goal.decreases-loop-at
decreases-loop-at l = l.upto - l.at
