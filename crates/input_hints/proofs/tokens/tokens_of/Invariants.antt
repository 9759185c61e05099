use Rattle.std.proofs.Common.{length}
use Rattle.input_hints.proofs.tokens.tokens_of.Given as goal

abbrev pub decreases-loop-rest : goal.decreases-loop-rest
decreases-loop-rest l = length l.rest
