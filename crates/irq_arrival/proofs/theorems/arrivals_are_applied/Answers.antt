use Rattle.bank_model.specs.BoardMachine.{fibers, bank_start}
use Rattle.irq_arrival.specs.Along.{world_with}
use Rattle.irq_arrival.proofs.Applies.{all_applied}
use Rattle.irq_arrival.proofs.Counted.{least_executed}
use Rattle.irq_arrival.proofs.theorems.arrivals_are_applied.Goals as goal

pub returns-clause-applies : goal.returns-clause-applies
returns-clause-applies c image until script arrivals free budget executed i a rises e at below =
    all_applied (fibers image) arrivals budget executed (bank_start image until script free) rises e.within e.not_before e.done i a at below

pub returns-clause-executes : goal.returns-clause-executes
returns-clause-executes c image until script arrivals free budget = least_executed (world_with image until script arrivals free) budget
