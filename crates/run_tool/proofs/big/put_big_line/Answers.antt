use Rattle.std.proofs.Common.{codes, decimal}
use Rattle.tool_io.proofs.Laws.{puts-as, puts-none}
use Rattle.run_tool.proofs.BigTexts.{three-behind}
use Rattle.run_tool.proofs.big.put_big_line.Goals as goal

pub returns : goal.returns
returns g c =
    puts-as c.then_put.result _ _ (three-behind (codes "big ") (decimal c.args.size) (codes "\n"))
    (c.then_put.ensures _ _ _ (c.then_put_decimal-put.ensures _ _ _ (c.then_put-put.ensures (g.K.Sink.taken c.args.out.now) (g.K.Sink.faults c.args.out.now) _
    (puts-none (g.K.Sink.taken c.args.out.now) (g.K.Sink.faults c.args.out.now)))))
