use Rattle.std.proofs.Common.{◌≡◌, length, Some}
use Rattle.register_assign.specs.Chosen.{firsts, uses_of}
use Rattle.register_assign.proofs.assignment.all_uses.Given as goal

abbrev pub invariant-loop-t : goal.invariant-loop-t
invariant-loop-t l = (length l.all.items ≡ l.t) × (l.all.items ≡ firsts (λ t. Some (uses_of l.function.ops t)) l.t)
