use Rattle.lower_simulation.proofs.Faults.{no_fault}
use Rattle.lower_simulation.proofs.lowering.lowered_code_makes_no_fault.Goals as goal

pub returns : goal.returns
returns c = no_fault
