use Rattle.lowered_code.proofs.FewOps.{routine_few, repeating_few}
use Rattle.lowered_code.proofs.costs.code_has_few_ops.Goals as goal

pub returns-clause-routines : goal.returns-clause-routines
returns-clause-routines c = routine_few

pub returns-clause-repeating : goal.returns-clause-repeating
returns-clause-repeating c = repeating_few
