use Rattle.tool_io.proofs.Laws.{puts-as, puts-none}
use Rattle.run_tool.proofs.Lines.{stats-pieces}
use Rattle.run_tool.proofs.run.put_stats.Goals as goal

pub returns : goal.returns
returns g c =
    let s = c.args.stats.now in
    puts-as c.then_put.result _ _ (stats-pieces s.spawned s.blocked s.words s.seats)
    (c.then_put.ensures _ _ _ (c.then_put_count-put-4.ensures _ _ _ (c.then_put-put-4.ensures _ _ _ (c.then_put_count-put-3.ensures _ _ _ (c.then_put-put-3.ensures _ _ _
    (c.then_put_count-put-2.ensures _ _ _ (c.then_put-put-2.ensures _ _ _ (c.then_put_count-put.ensures _ _ _
    (c.then_put-put.ensures (g.K.Sink.taken c.args.out.now) (g.K.Sink.faults c.args.out.now) _ (puts-none (g.K.Sink.taken c.args.out.now) (g.K.Sink.faults c.args.out.now)))))))))))
