use Rattle.std.proofs.Common.{◌++◌, ap}
use Rattle.tool_io.proofs.Laws.{puts-as}
use Rattle.board_outside.proofs.lines.then_put_few.Goals as goal

pub returns : goal.returns
returns g c = λ taken faults text p. puts-as c.then_put.result _ _ (ap (λ l. text ++ l) c.write_digits.ensures) (c.then_put.ensures taken faults text p)
