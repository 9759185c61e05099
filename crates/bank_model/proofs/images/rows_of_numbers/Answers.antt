use Rattle.std.proofs.Common.{refl}
use Rattle.std.specs.Fmt.{digits}
use Rattle.bank_model.proofs.images.rows_of_numbers.Goals as goal

pub returns-clause-ends : goal.returns-clause-ends
unfolding digits
returns-clause-ends c = refl

pub returns-clause-panics : goal.returns-clause-panics
unfolding digits
returns-clause-panics c = refl

pub returns-clause-writes : goal.returns-clause-writes
unfolding digits
returns-clause-writes c = refl

pub returns-clause-divides : goal.returns-clause-divides
unfolding digits
returns-clause-divides c = refl

pub returns-clause-leaves : goal.returns-clause-leaves
unfolding digits
returns-clause-leaves c = refl

pub returns-clause-of_24 : goal.returns-clause-of_24
unfolding digits
returns-clause-of_24 c = refl

pub returns-clause-of_255 : goal.returns-clause-of_255
unfolding digits
returns-clause-of_255 c = refl

pub returns-clause-divides_by_0 : goal.returns-clause-divides_by_0
unfolding digits
returns-clause-divides_by_0 c = refl

pub returns-clause-divides_least : goal.returns-clause-divides_least
unfolding digits
returns-clause-divides_least c = refl

pub returns-clause-leaves_by_0 : goal.returns-clause-leaves_by_0
unfolding digits
returns-clause-leaves_by_0 c = refl

pub returns-clause-leaves_least : goal.returns-clause-leaves_least
unfolding digits
returns-clause-leaves_least c = refl
