use Rattle.tool_io.proofs.Laws.{puts-as}
use Rattle.run_tool.proofs.Lines.{image-pieces}
use Rattle.run_tool.proofs.run.then_put_image.Goals as goal

pub returns : goal.returns
returns g c = λ taken faults text p.
    puts-as c.then_put.result _ _ (image-pieces text c.args.executed c.args.hex.now)
    (c.then_put.ensures _ _ _ (c.then_put-put-2.ensures _ _ _ (c.then_put_count-put.ensures _ _ _ (c.then_put-put.ensures taken faults text p))))
