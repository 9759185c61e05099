use Rattle.std.proofs.Common.{decimal, codes}
use Rattle.board_world.specs.Transcript.{frame_text}
use Rattle.tool_io.proofs.Laws.{puts-as}
use Rattle.board_outside.proofs.Texts.{four-pieces}
use Rattle.board_outside.proofs.lines.then_put_display.Goals as goal

pub returns : goal.returns
returns g c = λ taken faults text p.
    puts-as c.then_put.result _ _ (four-pieces text (decimal c.args.at) (codes " display ") (frame_text c.args.frame) (codes "\n"))
    (c.then_put.ensures taken faults _ (c.then_put_frame-put.ensures taken faults _ (c.then_put-put.ensures taken faults _ (c.then_put_decimal-put.ensures taken faults text p))))
