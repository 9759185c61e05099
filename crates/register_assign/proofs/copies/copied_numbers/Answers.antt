use Rattle.std.proofs.Common.{arith}
use Rattle.std.proofs.lemmas.Grind.{common_steps}
use Rattle.register_assign.proofs.copies.copied_numbers.Goals as goal

pub returns : goal.returns
returns c = grind (arith, common_steps)

pub loop-x-preserved : goal.loop-x-preserved
loop-x-preserved c = grind (arith, common_steps)
