use Rattle.std.proofs.Common.{decimal, codes, ap, ◌∙◌, ◌++◌}
use Rattle.board_world.specs.Transcript.{hex_text}
use Rattle.armv6m_machine.specs.Answers.{number_of}
use Rattle.tool_io.proofs.Laws.{puts-as}
use Rattle.board_outside.proofs.Texts.{seven-pieces}
use Rattle.board_outside.proofs.lines.then_put_fault.Goals as goal

pub returns : goal.returns
returns g c = λ taken faults text p.
    puts-as c.then_put.result _ _
    (seven-pieces text (codes "fault ") (decimal c.args.at) (codes " ") (decimal c.from.result) (codes " ") (hex_text c.to_be_bytes.result) (codes "\n")
    ∙ ap (λ kind. text ++ (codes "fault " ++ (decimal c.args.at ++ (codes " " ++ (decimal kind ++ (codes " " ++ (hex_text c.to_be_bytes.result ++ codes "\n"))))))) (c.from.ensures ∙ c.number.ensures)
    ∙ ap (λ bytes. text ++ (codes "fault " ++ (decimal c.args.at ++ (codes " " ++ (decimal (number_of c.args.fault) ++ (codes " " ++ (hex_text bytes ++ codes "\n"))))))) c.to_be_bytes.ensures)
    (c.then_put.ensures taken faults _ (c.then_put_hex-put.ensures taken faults _ (c.then_put-put-3.ensures taken faults _
    (c.then_put_decimal-put-2.ensures taken faults _ (c.then_put-put-2.ensures taken faults _
    (c.then_put_decimal-put.ensures taken faults _ (c.then_put-put.ensures taken faults text p)))))))
