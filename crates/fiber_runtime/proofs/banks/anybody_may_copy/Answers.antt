use Rattle.fiber_runtime.proofs.Switched.{parked_is_blocked, taken_is_resumed}
use Rattle.fiber_runtime.proofs.banks.anybody_may_copy.Goals as goal

pub returns-clause-blocks : goal.returns-clause-blocks
returns-clause-blocks c key now t why old new pool k found w p = parked_is_blocked key t why now old new pool k found w p

pub returns-clause-resumes : goal.returns-clause-resumes
returns-clause-resumes c old new stack p f w = taken_is_resumed old new stack p f w
