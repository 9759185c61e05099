use Rattle.std.proofs.Common.{refl}
use Rattle.std.specs.Fmt.{digits}
use Rattle.bank_model.proofs.images.rows_of_listeners.Goals as goal

pub returns-clause-listens : goal.returns-clause-listens
unfolding digits
returns-clause-listens c = refl

pub returns-clause-queues : goal.returns-clause-queues
unfolding digits
returns-clause-queues c = refl

pub returns-clause-reentrant : goal.returns-clause-reentrant
unfolding digits
returns-clause-reentrant c = refl

pub returns-clause-drops : goal.returns-clause-drops
unfolding digits
returns-clause-drops c = refl

pub returns-clause-even : goal.returns-clause-even
unfolding digits
returns-clause-even c = refl

pub returns-clause-even_with_mode : goal.returns-clause-even_with_mode
unfolding digits
returns-clause-even_with_mode c = refl

pub returns-clause-mode_16 : goal.returns-clause-mode_16
unfolding digits
returns-clause-mode_16 c = refl

pub returns-clause-mode_32 : goal.returns-clause-mode_32
unfolding digits
returns-clause-mode_32 c = refl

pub returns-clause-any : goal.returns-clause-any
unfolding digits
returns-clause-any c = refl

pub returns-clause-another : goal.returns-clause-another
unfolding digits
returns-clause-another c = refl

pub returns-clause-in_order : goal.returns-clause-in_order
unfolding digits
returns-clause-in_order c = refl

pub returns-clause-queues_with_mode : goal.returns-clause-queues_with_mode
unfolding digits
returns-clause-queues_with_mode c = refl

pub returns-clause-before_waiters : goal.returns-clause-before_waiters
unfolding digits
returns-clause-before_waiters c = refl
