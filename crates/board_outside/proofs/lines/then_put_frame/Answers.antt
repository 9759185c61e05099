use Rattle.std.proofs.Common.{codes, ◌/◌}
use Rattle.board_world.specs.Transcript.{lights}
use Rattle.tool_io.proofs.Laws.{puts-as}
use Rattle.board_outside.proofs.Texts.{four-rows}
use Rattle.board_outside.proofs.lines.then_put_frame.Goals as goal

pub returns : goal.returns
returns g c = λ taken faults text p.
    puts-as c.then_put_next_row.result _ _ (four-rows text (lights 5 c.args.frame) (codes "/") (lights 5 (c.args.frame / 32)) (lights 5 (c.args.frame / 32 / 32)) (lights 5 (c.args.frame / 32 / 32 / 32)) (lights 5 (c.args.frame / 32 / 32 / 32 / 32)))
    (c.then_put_next_row.ensures taken faults _ (c.then_put_next_row-put-3.ensures taken faults _ (c.then_put_next_row-put-2.ensures taken faults _
    (c.then_put_next_row-put.ensures taken faults _ (c.then_put_row-put.ensures taken faults text p)))))
