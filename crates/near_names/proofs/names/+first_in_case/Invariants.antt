use Rattle.std.proofs.Common.{length}
use Rattle.near_names.proofs.names.+first_in_case.Given as goal

abbrev pub decreases-first_in_case : goal.decreases-first_in_case
decreases-first_in_case l = length l.names.now
