use Rattle.std.proofs.Common.{decimal, codes}
use Rattle.tool_io.proofs.Laws.{puts-as}
use Rattle.board_outside.proofs.Texts.{six-pieces}
use Rattle.board_outside.proofs.lines.then_put_pin.Goals as goal

pub returns : goal.returns
returns g c = λ taken faults text p.
    puts-as c.then_put.result _ _ (six-pieces text (decimal c.args.at) (codes " pin ") (decimal c.args.pin) (codes " ") (decimal c.args.level) (codes "\n"))
    (c.then_put.ensures taken faults _ (c.then_put_decimal-put-3.ensures taken faults _ (c.then_put-put-2.ensures taken faults _
    (c.then_put_decimal-put-2.ensures taken faults _ (c.then_put-put.ensures taken faults _ (c.then_put_decimal-put.ensures taken faults text p))))))
