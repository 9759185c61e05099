use Rattle.std.proofs.Common.{length}
use Rattle.around_place.proofs.row.+begins.Given as goal

abbrev pub decreases-begins : goal.decreases-begins
decreases-begins l = length l.tests.now
