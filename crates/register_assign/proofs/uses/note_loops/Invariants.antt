use Rattle.std.proofs.Common.{◌≡◌, ◌≤◌, ◌-◌, length}
use Rattle.register_assign.specs.Chosen.{loops_of_last}
use Rattle.register_assign.proofs.uses.note_loops.Given as goal

abbrev pub invariant-loop-at : goal.invariant-loop-at
invariant-loop-at l = (l.at ≤ length l.ops) × (length l.bounds ≡ length l.ops) × (l.bounds ≡ loops_of_last l.ops (length l.ops - l.at))

abbrev pub decreases-loop-at : goal.decreases-loop-at
decreases-loop-at l = l.at
