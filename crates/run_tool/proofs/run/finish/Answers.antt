use Rattle.std.proofs.Common.{subst, sym, ap, ◌∙◌}
use Rattle.run_tool.specs.declared.ending.Ending.TheVariants.{Gave, Cut}
use Rattle.run_tool.specs.inner.{FinishesRun, ending_by}
use Rattle.run_tool.proofs.ProgramRuns.{counted_behind}
use Rattle.run_tool.proofs.run.finish.Goals as goal

pub returns-in-Ok : goal.returns-in-Ok
returns-in-Ok g c =
    let m = c.args.behind in
    subst (λ e. FinishesRun (g.K.Sink.taken c.args.out.now) (g.K.Sink.taken c.put_asked.new.out) (g.K.Sink.faults c.args.out.now) (g.K.Sink.faults c.put_asked.new.out) e
    (counted_behind m.stats m.image c.args.stats.now c.args.hex.now) (Gave c.in-Gave.status)) (sym c.in-Gave.is ∙ c.ending_of.ensures)
    (c.put_asked.result, c.put_asked.ensures, ap (ending_by c.in-Gave.status) (sym c.in-Ok.is))

pub returns-in-Err : goal.returns-in-Err
returns-in-Err g c =
    let m = c.args.behind in
    subst (λ e. FinishesRun (g.K.Sink.taken c.args.out.now) (g.K.Sink.taken c.put_asked.new.out) (g.K.Sink.faults c.args.out.now) (g.K.Sink.faults c.put_asked.new.out) e
    (counted_behind m.stats m.image c.args.stats.now c.args.hex.now) Cut) (sym c.in-Gave.is ∙ c.ending_of.ensures)
    (c.put_asked.result, c.put_asked.ensures, ap (ending_by c.in-Gave.status) (sym c.in-Err.is))
