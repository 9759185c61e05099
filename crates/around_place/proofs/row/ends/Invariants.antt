use Rattle.std.proofs.Common.{length}
use Rattle.around_place.proofs.Ending.{EndsKept}
use Rattle.around_place.proofs.row.ends.Given as goal

abbrev pub invariant-loop-rest : goal.invariant-loop-rest
invariant-loop-rest l = EndsKept l.fn.text l.rest l.tests

abbrev pub decreases-loop-rest : goal.decreases-loop-rest
decreases-loop-rest l = length l.rest
