use Rattle.std.proofs.Common.{◌≡◌, length}
use Rattle.register_assign.specs.Chosen.{depth_to, weights_to}
use Rattle.register_assign.proofs.uses.weigh.Given as goal

abbrev pub invariant-loop-here : goal.invariant-loop-here
invariant-loop-here l = (l.depth ≡ depth_to l.bounds l.here-index) × (l.weights.items ≡ weights_to l.bounds l.here-index) × (length l.weights.items ≡ l.here-index)
