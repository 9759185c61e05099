use Rattle.std.proofs.Common.{arith}
use Rattle.std.proofs.lemmas.Grind.{common_steps}
use Rattle.register_assign.proofs.checks.is_temporary_sound.Goals as goal

pub returns : goal.returns
returns c = grind (arith, common_steps)
