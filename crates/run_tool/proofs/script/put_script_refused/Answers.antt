use Rattle.std.proofs.Common.{rules}
use Rattle.event_script.specs.Codes.{number_of}
use Rattle.tool_io.proofs.Laws.{puts-as, puts-none}
use Rattle.run_tool.proofs.ImageRuns.{script-refusal-pieces}
use Rattle.run_tool.proofs.script.put_script_refused.Goals as goal

pub returns : goal.returns
returns g c =
    puts-as c.then_put.result _ _ (script-refusal-pieces c.from.result (number_of c.args.code) (search rules))
    (c.then_put.ensures _ _ _ (c.then_put_decimal-put.ensures _ _ _ (c.then_put-put.ensures (g.K.Sink.taken c.args.out.now) (g.K.Sink.faults c.args.out.now) _
    (puts-none (g.K.Sink.taken c.args.out.now) (g.K.Sink.faults c.args.out.now)))))
