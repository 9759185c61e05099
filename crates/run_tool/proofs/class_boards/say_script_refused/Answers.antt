use Rattle.std.proofs.Common.{refl, ◌++◌}
use Rattle.std.specs.Prelude.{codes}
use Rattle.event_script.specs.Codes.{number_of}
use Rattle.run_tool.specs.declared.ending.Status.TheVariants.{ScriptRefused}
use Rattle.run_tool.specs.Files.{code_line}
use Rattle.class_world.specs.Lines.{board_lead}
use Rattle.run_tool.proofs.class_boards.say_script_refused.Goals as goal

pub returns-in-Err : goal.returns-in-Err
returns-in-Err g c =
    record {
      ends = (ScriptRefused, board_lead c.args.number ++ code_line (codes "script refused ") (number_of c.args.code), refl, c.in-Err.ensures.part);
      later = c.in-Err.ensures.later;
      cut = λ cut. c.in-Err.ensures.failed;
    }
