use Rattle.std.proofs.Common.{refl}
use Rattle.std.specs.Fmt.{digits}
use Rattle.bank_model.proofs.images.rows_of_overlaps.Goals as goal

pub returns-clause-length_last : goal.returns-clause-length_last
unfolding digits
returns-clause-length_last c = refl

pub returns-clause-copied_first : goal.returns-clause-copied_first
unfolding digits
returns-clause-copied_first c = refl
