use Rattle.std.proofs.Common.{refl}
use Rattle.std.specs.Fmt.{digits}
use Rattle.world_rows.proofs.careful.hasty_programs_make_a_fault.Goals as goal

pub returns-clause-fault : goal.returns-clause-fault
returns-clause-fault c = refl

pub returns-clause-below : goal.returns-clause-below
unfolding digits
returns-clause-below c = refl
