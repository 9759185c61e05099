use Rattle.std.proofs.Common.{length}
use Rattle.near_names.proofs.names.+has_one_more.Given as goal

abbrev pub decreases-has_one_more : goal.decreases-has_one_more
decreases-has_one_more l = length l.word.now
