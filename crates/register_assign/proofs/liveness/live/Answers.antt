use Rattle.std.proofs.Common.{arith}
use Rattle.std.proofs.lemmas.Grind.{common_steps}
use Rattle.register_assign.proofs.liveness.live.Goals as goal

pub returns : goal.returns
returns c = grind (arith, common_steps)

pub settle-requires-clause-long : goal.settle-requires-clause-long
settle-requires-clause-long c = grind (arith, common_steps)
