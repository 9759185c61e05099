use Rattle.std.proofs.Common.{nat_le, arith}
use Rattle.std.proofs.lemmas.Bool.Decides.{nat_tests}
use Rattle.fiber_queues.proofs.Chosen.{chosen-none_more}
use Rattle.fiber_queues.proofs.search.first_due.Goals as goal

pub loop-at-preserved : goal.loop-at-preserved
loop-at-preserved c = chosen-none_more (λ wake. nat_le wake c.args.now) c.args.sleepers.now c.loop-at.at (0, 0) (omega arith) c.loop-at.invariant (grind (arith, nat_tests))
