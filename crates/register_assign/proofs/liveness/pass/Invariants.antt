use Rattle.register_assign.proofs.Marking.{Passing}
use Rattle.register_assign.proofs.liveness.pass.Given as goal

abbrev pub invariant-loop-at : goal.invariant-loop-at
invariant-loop-at l = Passing l.ops l.t l.fn.marks l.marks l.changed l.at

abbrev pub decreases-loop-at : goal.decreases-loop-at
decreases-loop-at l = l.at
