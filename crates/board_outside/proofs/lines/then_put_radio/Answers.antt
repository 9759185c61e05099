use Rattle.std.proofs.Common.{decimal, codes, ap, ◌∙◌, ◌++◌, w32, to_z-of_z}
use Rattle.board_world.specs.Transcript.{decimal_text}
use Rattle.tool_io.proofs.Laws.{puts-as}
use Rattle.board_outside.proofs.Texts.{four-pieces}
use Rattle.board_outside.proofs.lines.then_put_radio.Goals as goal

pub returns : goal.returns
returns g c = λ taken faults text p.
    puts-as c.then_put.result _ _
    (four-pieces text (decimal c.args.at) (codes " radio ") c.as_bytes.result.now (codes "\n")
    ∙ ap (λ number. text ++ (decimal c.args.at ++ (codes " radio " ++ (number ++ codes "\n")))) (c.as_bytes.ensures.value ∙ c.format.ensures.text ∙ ap decimal_text (to_z-of_z {w = w32} {z = c.args.number} (record { sfits = c.ranges.number.sfits }))))
    (c.then_put.ensures taken faults _ (c.then_put-put-2.ensures taken faults _ (c.then_put-put.ensures taken faults _ (c.then_put_decimal-put.ensures taken faults text p))))
