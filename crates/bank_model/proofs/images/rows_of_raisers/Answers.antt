use Rattle.std.proofs.Common.{refl}
use Rattle.std.specs.Fmt.{digits}
use Rattle.bank_model.proofs.images.rows_of_raisers.Goals as goal

pub returns-clause-raisers_32 : goal.returns-clause-raisers_32
unfolding digits
returns-clause-raisers_32 c = refl

pub returns-clause-raisers_33 : goal.returns-clause-raisers_33
unfolding digits
returns-clause-raisers_33 c = refl
