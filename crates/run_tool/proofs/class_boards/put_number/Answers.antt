use Rattle.tool_io.proofs.Laws.{puts-none}
use Rattle.run_tool.proofs.class_boards.put_number.Goals as goal

pub returns : goal.returns
returns g c =
    c.then_put.ensures (g.K.Sink.taken c.args.out.now) (g.K.Sink.faults c.args.out.now) _
    (c.then_put_decimal-put.ensures (g.K.Sink.taken c.args.out.now) (g.K.Sink.faults c.args.out.now) _ (puts-none (g.K.Sink.taken c.args.out.now) (g.K.Sink.faults c.args.out.now)))
