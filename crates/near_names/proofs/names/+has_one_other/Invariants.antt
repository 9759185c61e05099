use Rattle.std.proofs.Common.{length}
use Rattle.near_names.proofs.names.+has_one_other.Given as goal

abbrev pub decreases-has_one_other : goal.decreases-has_one_other
decreases-has_one_other l = length l.word.now
