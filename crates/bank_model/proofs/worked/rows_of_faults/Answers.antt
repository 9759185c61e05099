use Rattle.std.proofs.Common.{refl}
use Rattle.std.specs.Fmt.{digits}
use Rattle.bank_model.proofs.worked.rows_of_faults.Goals as goal

pub returns-clause-undefined : goal.returns-clause-undefined
unfolding digits
returns-clause-undefined c = refl

pub returns-clause-store_at_base : goal.returns-clause-store_at_base
unfolding digits
returns-clause-store_at_base c = refl

pub returns-clause-above_base : goal.returns-clause-above_base
unfolding digits
returns-clause-above_base c = refl

pub returns-clause-no_service : goal.returns-clause-no_service
unfolding digits
returns-clause-no_service c = refl

pub returns-clause-no_bytes : goal.returns-clause-no_bytes
unfolding digits
returns-clause-no_bytes c = refl

pub returns-clause-bit_clear : goal.returns-clause-bit_clear
unfolding digits
returns-clause-bit_clear c = refl
