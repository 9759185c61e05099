use Rattle.std.proofs.Common.{length}
use Rattle.near_names.proofs.own.is_in_class.Given as goal

abbrev pub decreases-loop-word : goal.decreases-loop-word
decreases-loop-word l = length l.rest
