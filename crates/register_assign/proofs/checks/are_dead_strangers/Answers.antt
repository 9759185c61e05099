use Rattle.std.proofs.Common.{arith}
use Rattle.std.proofs.lemmas.Grind.{common_steps}
use Rattle.register_assign.proofs.checks.are_dead_strangers.Goals as goal

pub returns : goal.returns
returns c = grind (arith, common_steps)

pub loop-t-preserved : goal.loop-t-preserved
loop-t-preserved c = grind (arith, common_steps)

pub returns-then-not-branch : goal.returns-then-not-branch
returns-then-not-branch c = grind (arith, common_steps)
