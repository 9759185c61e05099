use Rattle.std.proofs.Common.{rules}
use Rattle.sts_base.specs.Numbers.{number_of}
use Rattle.tool_io.proofs.Laws.{puts-as}
use Rattle.run_tool.proofs.Lines.{refusal-pieces}
use Rattle.run_tool.proofs.said.then_put_refused.Goals as goal

pub returns : goal.returns
returns g c = λ taken faults text p.
    puts-as c.then_put.result _ _ (refusal-pieces text c.from.result (number_of c.args.code) c.args.line c.args.column (search rules))
    (c.then_put.ensures _ _ _ (c.then_put_decimal-put-3.ensures _ _ _ (c.then_put-put-3.ensures _ _ _ (c.then_put_decimal-put-2.ensures _ _ _
    (c.then_put-put-2.ensures _ _ _ (c.then_put_decimal-put.ensures _ _ _ (c.then_put-put.ensures taken faults text p)))))))
