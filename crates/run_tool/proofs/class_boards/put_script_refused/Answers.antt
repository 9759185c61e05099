use Rattle.std.proofs.Common.{rules}
use Rattle.event_script.specs.Codes.{number_of}
use Rattle.tool_io.proofs.Laws.{puts-as}
use Rattle.class_world.specs.Lines.{board_lead}
use Rattle.run_tool.proofs.ClassAnswers.{board-script-pieces}
use Rattle.run_tool.proofs.class_boards.put_script_refused.Goals as goal

pub returns : goal.returns
returns g c =
    puts-as c.then_put.result _ _ (board-script-pieces (board_lead c.args.number) c.from.result (number_of c.args.code) (search rules))
    (c.then_put.ensures _ _ _ (c.then_put_decimal-put.ensures _ _ _ (c.then_put-put.ensures (g.K.Sink.taken c.args.out.now) (g.K.Sink.faults c.args.out.now) _ c.put_number-put.ensures)))
