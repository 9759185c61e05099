use Rattle.std.proofs.Common.{arith}
use Rattle.std.proofs.lemmas.Grind.{common_steps}
use Rattle.sts_syntax.proofs.Laws.{routine_parts}
use Rattle.type_check.proofs.passes.check_body.Goals as goal

pub returns-in_err-scope : goal.returns-in_err-scope
returns-in_err-scope c = grind (arith, common_steps, routine_parts)

pub returns : goal.returns
returns c = grind (arith, common_steps, routine_parts)
