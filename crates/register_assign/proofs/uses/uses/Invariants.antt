use Rattle.std.proofs.Common.{◌≡◌}
use Rattle.register_assign.specs.Chosen.{uses_to}
use Rattle.register_assign.proofs.uses.uses.Given as goal

abbrev pub invariant-loop-at : goal.invariant-loop-at
invariant-loop-at l = l.sum ≡ uses_to l.ops l.t l.weights l.at
