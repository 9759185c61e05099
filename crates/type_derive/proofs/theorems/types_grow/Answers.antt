use Rattle.type_derive.proofs.Grows.{grows}
use Rattle.type_derive.proofs.theorems.types_grow.Goals as goal

pub returns : goal.returns
returns c = λ tables k l p q g h r e. grows tables k l g p q h r e
