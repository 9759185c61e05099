use Rattle.std.proofs.Common.{decimal, codes}
use Rattle.tool_io.proofs.Laws.{puts-as}
use Rattle.board_outside.proofs.Texts.{three-pieces}
use Rattle.board_outside.proofs.lines.then_put_quiet.Goals as goal

pub returns : goal.returns
returns g c = λ taken faults text p.
    puts-as c.then_put.result _ _ (three-pieces text (codes "end ") (decimal c.args.at) (codes " quiet\n"))
    (c.then_put.ensures taken faults _ (c.then_put_decimal-put.ensures taken faults _ (c.then_put-put.ensures taken faults text p)))
