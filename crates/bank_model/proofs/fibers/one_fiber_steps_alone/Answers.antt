use Rattle.bank_model.proofs.Laws.{single_goes, single_writes, single_ends, single_panics, single_faults}
use Rattle.bank_model.proofs.fibers.one_fiber_steps_alone.Goals as goal

pub returns-clause-goes : goal.returns-clause-goes
returns-clause-goes c = λ image until seen f g s t e. single_goes image until seen f s g t e

pub returns-clause-writes : goal.returns-clause-writes
returns-clause-writes c = λ image until seen f g s t b bs e. single_writes image until seen f s g t b bs e

pub returns-clause-ends : goal.returns-clause-ends
returns-clause-ends c = λ image until seen f s t again e. single_ends image until seen f s again t e

pub returns-clause-panics : goal.returns-clause-panics
returns-clause-panics c = single_panics

pub returns-clause-faults : goal.returns-clause-faults
returns-clause-faults c = single_faults
