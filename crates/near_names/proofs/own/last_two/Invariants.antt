use Rattle.std.proofs.Common.{length}
use Rattle.near_names.proofs.own.last_two.Given as goal

abbrev pub decreases-loop-word : goal.decreases-loop-word
decreases-loop-word l = length l.rest
