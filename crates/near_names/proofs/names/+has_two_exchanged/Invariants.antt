use Rattle.std.proofs.Common.{length}
use Rattle.near_names.proofs.names.+has_two_exchanged.Given as goal

abbrev pub decreases-has_two_exchanged : goal.decreases-has_two_exchanged
decreases-has_two_exchanged l = length l.word.now
