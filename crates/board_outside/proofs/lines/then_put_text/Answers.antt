use Rattle.std.proofs.Common.{decimal, codes, ap, ◌∙◌, ◌++◌, ◌+◌}
use Rattle.thumb_code.specs.Map.{flash_word}
use Rattle.bank_model.specs.Texts.{flash_bytes}
use Rattle.board_world.specs.Transcript.{hex_text}
use Rattle.tool_io.proofs.Laws.{puts-as}
use Rattle.board_outside.proofs.Texts.{four-pieces}
use Rattle.board_outside.proofs.lines.then_put_text.Goals as goal

pub returns : goal.returns
returns g c = λ taken faults text p.
    let flash = c.args.machine.now.memory.flash in
    puts-as c.then_put.result _ _
    (four-pieces text (decimal c.args.at) (codes " serial ") (hex_text (flash_bytes flash c.flash_number-count.result (c.from-2.result + 4))) (codes "\n")
    ∙ ap (λ n. text ++ (decimal c.args.at ++ (codes " serial " ++ (hex_text (flash_bytes flash c.flash_number-count.result (n + 4)) ++ codes "\n")))) c.from-2.ensures
    ∙ ap (λ n. text ++ (decimal c.args.at ++ (codes " serial " ++ (hex_text (flash_bytes flash n (c.args.address + 4)) ++ codes "\n")))) (c.flash_number-count.ensures ∙ ap (flash_word flash) c.from.ensures))
    (c.then_put.ensures taken faults _ (c.then_put_flash_hex-put.ensures taken faults _ (c.then_put-put.ensures taken faults _ (c.then_put_decimal-put.ensures taken faults text p))))
