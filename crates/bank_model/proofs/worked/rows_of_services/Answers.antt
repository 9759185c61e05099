use Rattle.std.proofs.Common.{refl}
use Rattle.std.specs.Fmt.{digits}
use Rattle.bank_model.proofs.worked.rows_of_services.Goals as goal

pub returns-clause-ends : goal.returns-clause-ends
unfolding digits
returns-clause-ends c = refl

pub returns-clause-negative : goal.returns-clause-negative
unfolding digits
returns-clause-negative c = refl

pub returns-clause-panics : goal.returns-clause-panics
unfolding digits
returns-clause-panics c = refl

pub returns-clause-divides : goal.returns-clause-divides
unfolding digits
returns-clause-divides c = refl

pub returns-clause-leaves : goal.returns-clause-leaves
unfolding digits
returns-clause-leaves c = refl

pub returns-clause-budget : goal.returns-clause-budget
unfolding digits
returns-clause-budget c = refl
