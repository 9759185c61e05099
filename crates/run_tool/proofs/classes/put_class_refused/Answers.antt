use Rattle.std.proofs.Common.{rules}
use Rattle.class_file.specs.Codes.{number_of}
use Rattle.tool_io.proofs.Laws.{puts-as, puts-none}
use Rattle.run_tool.proofs.ClassAnswers.{class-refusal-pieces}
use Rattle.run_tool.proofs.classes.put_class_refused.Goals as goal

pub returns : goal.returns
returns g c =
    puts-as c.then_put.result _ _ (class-refusal-pieces c.from.result (number_of c.args.code) (search rules))
    (c.then_put.ensures _ _ _ (c.then_put_decimal-put.ensures _ _ _ (c.then_put-put.ensures (g.K.Sink.taken c.args.out.now) (g.K.Sink.faults c.args.out.now) _
    (puts-none (g.K.Sink.taken c.args.out.now) (g.K.Sink.faults c.args.out.now)))))
