use Rattle.type_derive.specs.Typing.{type_of}
use Rattle.typed_laws.proofs.Typed.{typed, some}
use Rattle.typed_laws.proofs.theorems.no_failure_has_a_type.Goals as goal

pub returns : goal.returns
returns c = λ tables names k p r e i h. some (type_of tables k p r e) (typed tables names k p r e i h)
