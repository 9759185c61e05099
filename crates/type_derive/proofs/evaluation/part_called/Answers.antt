use Rattle.std.proofs.Common.{sym, ap, ◌∙◌}
use Rattle.type_derive.specs.Typing.{◌>>=◌, part_callee}
use Rattle.type_derive.proofs.evaluation.part_called.Goals as goal

pub returns-in-Some : goal.returns-in-Some
returns-in-Some c = λ known. c.part_callee.ensures known ∙ sym (ap (λ o. o >>= λ part. part_callee known part) c.in-Some.is)
