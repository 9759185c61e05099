use Rattle.std.proofs.Common.{rules, []}
use Rattle.tool_io.proofs.Laws.{puts-as, puts-none}
use Rattle.board_run.proofs.closing.put_closing.Goals as goal

pub returns-in-Some-Quiet : goal.returns-in-Some-Quiet
returns-in-Some-Quiet g c =
    puts-as c.then_put_quiet.result _ _ (search rules)
    (c.then_put_quiet.ensures _ _ [] (puts-none (g.K.Sink.taken c.args.out.now) (g.K.Sink.faults c.args.out.now)))

pub returns-in-Some-Panic : goal.returns-in-Some-Panic
returns-in-Some-Panic g c =
    puts-as c.then_put_panic.result _ _ (search rules)
    (c.then_put_panic.ensures _ _ [] (puts-none (g.K.Sink.taken c.args.out.now) (g.K.Sink.faults c.args.out.now)))

pub returns-in-Some-Fault : goal.returns-in-Some-Fault
returns-in-Some-Fault g c =
    puts-as c.then_put_fault.result _ _ (search rules)
    (c.then_put_fault.ensures _ _ [] (puts-none (g.K.Sink.taken c.args.out.now) (g.K.Sink.faults c.args.out.now)))

pub returns-in-None : goal.returns-in-None
returns-in-None g c =
    puts-as c.then_put_budget.result _ _ (search rules)
    (c.then_put_budget.ensures _ _ [] (puts-none (g.K.Sink.taken c.args.out.now) (g.K.Sink.faults c.args.out.now)))

pub returns-in-Some-Script : goal.returns-in-Some-Script
returns-in-Some-Script g c =
    puts-as c.then_put_script.result _ _ (search rules)
    (c.then_put_script.ensures _ _ [] (puts-none (g.K.Sink.taken c.args.out.now) (g.K.Sink.faults c.args.out.now)))
