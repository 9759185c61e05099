use Rattle.std.proofs.Common.{◌++◌, ap}
use Rattle.tool_io.proofs.Laws.{puts-as}
use Rattle.board_outside.proofs.Texts.{five-lights}
use Rattle.board_outside.proofs.lines.then_put_row.Goals as goal

pub returns : goal.returns
returns g c = λ taken faults text p.
    puts-as c.then_put.result _ _
    (ap (λ x. text ++ x) (five-lights c.args.frame _ _ _ _ _ c.light.ensures c.light-2.ensures c.light-3.ensures c.light-4.ensures c.light-5.ensures))
    (c.then_put.ensures taken faults text p)
