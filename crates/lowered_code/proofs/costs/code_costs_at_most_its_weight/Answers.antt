use Rattle.lowered_code.proofs.Sums.{routine_cost, repeating_cost}
use Rattle.lowered_code.proofs.costs.code_costs_at_most_its_weight.Goals as goal

pub returns-clause-routines : goal.returns-clause-routines
returns-clause-routines c = routine_cost

pub returns-clause-repeating : goal.returns-clause-repeating
returns-clause-repeating c = repeating_cost
