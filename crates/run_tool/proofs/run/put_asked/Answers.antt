use Rattle.tool_io.proofs.Laws.{puts-as}
use Rattle.run_tool.proofs.ProgramRuns.{behind-both}
use Rattle.run_tool.proofs.run.put_asked.Goals as goal

pub returns-then-behind-2 : goal.returns-then-behind-2
returns-then-behind-2 g c =
    puts-as c.then_put_image.result _ _ (behind-both c.args.behind.stats c.args.behind.image c.args.stats.now c.args.hex.now c.if-behind.true c.if-behind-2.true)
    (c.then_put_image.ensures _ _ _ c.put_stats-put.ensures)
