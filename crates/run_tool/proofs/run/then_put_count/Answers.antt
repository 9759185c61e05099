use Rattle.std.proofs.Common.{◌++◌, ◌∙◌, ap, decimal}
use Rattle.tool_io.proofs.Laws.{puts-as}
use Rattle.run_tool.proofs.run.then_put_count.Goals as goal

pub returns : goal.returns
returns g c = λ taken faults text p.
    puts-as c.then_put.result (text ++ c.as_bytes.result.now) (text ++ decimal c.args.count)
    (ap (λ x. text ++ x) (c.as_bytes.ensures.value ∙ c.format.ensures.text)) (c.then_put.ensures taken faults text p)
