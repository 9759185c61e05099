use Rattle.std.proofs.Common.{arith}
use Rattle.std.proofs.lemmas.Grind.{common_steps}
use Rattle.type_check.proofs.Texts.{routine_place}
use Rattle.type_check.proofs.overrides.check_method.Goals as goal

pub returns : goal.returns
returns c = grind (arith, common_steps, routine_place)
