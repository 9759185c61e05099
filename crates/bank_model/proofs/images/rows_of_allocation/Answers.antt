use Rattle.std.proofs.Common.{refl}
use Rattle.std.specs.Fmt.{digits}
use Rattle.bank_model.proofs.images.rows_of_allocation.Goals as goal

pub returns-clause-first : goal.returns-clause-first
unfolding digits
returns-clause-first c = refl

pub returns-clause-second : goal.returns-clause-second
unfolding digits
returns-clause-second c = refl

pub returns-clause-none : goal.returns-clause-none
unfolding digits
returns-clause-none c = refl

pub returns-clause-all : goal.returns-clause-all
unfolding digits
returns-clause-all c = refl

pub returns-clause-one_more : goal.returns-clause-one_more
unfolding digits
returns-clause-one_more c = refl

pub returns-clause-all_and_one : goal.returns-clause-all_and_one
unfolding digits
returns-clause-all_and_one c = refl

pub returns-clause-most : goal.returns-clause-most
unfolding digits
returns-clause-most c = refl
