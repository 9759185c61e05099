use Rattle.std.proofs.Common.{◌≡◌, [], ◌∷◌}
use Rattle.sts_lower.specs.Code.{span}
use Rattle.sts_lower.proofs.calls.with_object.Given as goal

abbrev pub invariant-loop-i : goal.invariant-loop-i
invariant-loop-i l = l.numbers ≡ l.object ∷ span l.first l.i []
