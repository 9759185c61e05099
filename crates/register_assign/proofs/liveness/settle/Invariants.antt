use Rattle.register_assign.specs.Marks.{AreLive, unmarked}
use Rattle.register_assign.proofs.liveness.settle.Given as goal

abbrev pub invariant-loop-t : goal.invariant-loop-t
invariant-loop-t l = AreLive l.ops l.t l.marks

abbrev pub decreases-loop-t : goal.decreases-loop-t
decreases-loop-t l = unmarked l.marks
