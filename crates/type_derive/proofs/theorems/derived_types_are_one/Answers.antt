use Rattle.type_derive.proofs.Single.{one}
use Rattle.type_derive.proofs.theorems.derived_types_are_one.Goals as goal

pub returns : goal.returns
returns c = one
