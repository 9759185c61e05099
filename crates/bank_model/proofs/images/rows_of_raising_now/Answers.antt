use Rattle.std.proofs.Common.{refl}
use Rattle.std.specs.Fmt.{digits}
use Rattle.bank_model.proofs.images.rows_of_raising_now.Goals as goal

pub returns-clause-before : goal.returns-clause-before
unfolding digits
returns-clause-before c = refl

pub returns-clause-later : goal.returns-clause-later
unfolding digits
returns-clause-later c = refl

pub returns-clause-base : goal.returns-clause-base
unfolding digits
returns-clause-base c = refl

pub returns-clause-base_again : goal.returns-clause-base_again
unfolding digits
returns-clause-base_again c = refl

pub returns-clause-nobody : goal.returns-clause-nobody
unfolding digits
returns-clause-nobody c = refl

pub returns-clause-in_order : goal.returns-clause-in_order
unfolding digits
returns-clause-in_order c = refl

pub returns-clause-wakes : goal.returns-clause-wakes
unfolding digits
returns-clause-wakes c = refl

pub returns-clause-lets_go_on : goal.returns-clause-lets_go_on
unfolding digits
returns-clause-lets_go_on c = refl

pub returns-clause-drops : goal.returns-clause-drops
unfolding digits
returns-clause-drops c = refl

pub returns-clause-wakes_once : goal.returns-clause-wakes_once
unfolding digits
returns-clause-wakes_once c = refl
