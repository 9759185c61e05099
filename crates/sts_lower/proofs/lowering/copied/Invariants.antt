use Rattle.std.proofs.Common.{◌≡◌, ◌++◌, drop}
use Rattle.sts_lower.proofs.lowering.copied.Given as goal

abbrev pub invariant-loop-number : goal.invariant-loop-number
invariant-loop-number l = l.copy ++ drop l.number-index l.number-items ≡ l.number-items
