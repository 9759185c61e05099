use Rattle.tool_io.proofs.Laws.{puts-as}
use Rattle.board_outside.proofs.Texts.{flash-parts}
use Rattle.board_outside.proofs.lines.then_put_flash_hex.Goals as goal

pub returns : goal.returns
returns g c = λ taken faults text p.
    puts-as c.then_put_each_hex.result _ _
    (flash-parts text c.args.machine.now.memory.flash c.image_bytes-bytes.result.now c.args.count c.args.at c.image_bytes-bytes.ensures.within c.image_bytes-bytes.ensures.bytes)
    (c.then_put_each_hex.ensures taken faults _ (c.then_put_hex-put.ensures taken faults text p))
