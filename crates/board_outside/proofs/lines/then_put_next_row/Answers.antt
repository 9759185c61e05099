use Rattle.std.proofs.Common.{codes, append_assoc}
use Rattle.board_world.specs.Transcript.{lights}
use Rattle.tool_io.proofs.Laws.{puts-as}
use Rattle.board_outside.proofs.lines.then_put_next_row.Goals as goal

pub returns : goal.returns
returns g c = λ taken faults text p.
    puts-as c.then_put_row.result _ _ (append_assoc text (codes "/") (lights 5 c.args.frame)) (c.then_put_row.ensures taken faults _ (c.then_put-put.ensures taken faults text p))
