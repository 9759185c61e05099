use Rattle.lowered_code.proofs.Typed.{well_typed_fine}
use Rattle.lowered_code.proofs.needs.well_typed_programs_are_fine.Goals as goal

pub returns : goal.returns
returns c = well_typed_fine
