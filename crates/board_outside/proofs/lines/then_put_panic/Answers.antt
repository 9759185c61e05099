use Rattle.std.proofs.Common.{decimal, codes, ap, ◌∙◌, ◌++◌}
use Rattle.tool_io.proofs.Laws.{puts-as}
use Rattle.board_outside.proofs.Texts.{five-pieces}
use Rattle.board_outside.proofs.lines.then_put_panic.Goals as goal

pub returns : goal.returns
returns g c = λ taken faults text p.
    puts-as c.then_put.result _ _
    (five-pieces text (codes "panic ") (decimal c.args.at) (codes " ") (decimal c.from.result) (codes "\n")
    ∙ ap (λ code. text ++ (codes "panic " ++ (decimal c.args.at ++ (codes " " ++ (decimal code ++ codes "\n"))))) c.from.ensures)
    (c.then_put.ensures taken faults _ (c.then_put_decimal-put-2.ensures taken faults _ (c.then_put-put-2.ensures taken faults _
    (c.then_put_decimal-put.ensures taken faults _ (c.then_put-put.ensures taken faults text p)))))
