use Rattle.type_derive.proofs.Rounds.{types_exist}
use Rattle.type_derive.proofs.theorems.derived_types_exist.Goals as goal

pub returns : goal.returns
returns c = types_exist
