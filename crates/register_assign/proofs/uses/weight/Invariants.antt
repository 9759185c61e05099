use Rattle.std.proofs.Common.{◌≡◌}
use Rattle.register_assign.specs.Chosen.{tens}
use Rattle.register_assign.proofs.uses.weight.Given as goal

abbrev pub invariant-loop : goal.invariant-loop
invariant-loop l = l.weight ≡ tens l.counter
