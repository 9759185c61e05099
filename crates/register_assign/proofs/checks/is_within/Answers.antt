use Rattle.std.proofs.Common.{arith}
use Rattle.std.proofs.lemmas.Grind.{common_steps}
use Rattle.register_assign.proofs.checks.is_within.Goals as goal

pub returns-in-Slot : goal.returns-in-Slot
returns-in-Slot c = grind (arith, common_steps)

pub returns-then-r-ge4 : goal.returns-then-r-ge4
returns-then-r-ge4 c = grind (arith, common_steps)

pub returns-else-r-ge4 : goal.returns-else-r-ge4
returns-else-r-ge4 c = grind (arith, common_steps)

pub returns-in-Incoming : goal.returns-in-Incoming
returns-in-Incoming c = grind (arith, common_steps)
