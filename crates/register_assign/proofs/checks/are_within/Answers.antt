use Rattle.std.proofs.Common.{arith}
use Rattle.std.proofs.lemmas.Grind.{common_steps}
use Rattle.register_assign.proofs.checks.are_within.Goals as goal

pub returns : goal.returns
returns c = grind (arith, common_steps)

pub loop-place-preserved : goal.loop-place-preserved
loop-place-preserved c = grind (arith, common_steps)

pub returns-then-not-is_within : goal.returns-then-not-is_within
returns-then-not-is_within c = grind (arith, common_steps)
