use Rattle.std.proofs.Common.{◌≡◌, []}
use Rattle.sts_lower.specs.Code.{span}
use Rattle.sts_lower.proofs.ops.span.Given as goal

abbrev pub invariant-loop-i : goal.invariant-loop-i
invariant-loop-i l = l.numbers ≡ span l.first l.i []
