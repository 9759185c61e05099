use Rattle.std.proofs.Common.{refl}
use Rattle.std.specs.Prelude.{codes}
use Rattle.class_file.specs.Codes.{number_of}
use Rattle.run_tool.specs.declared.ending.Status.TheVariants.{ClassRefused}
use Rattle.run_tool.specs.Files.{code_line}
use Rattle.run_tool.proofs.classes.say_class_refused.Goals as goal

pub returns-in-Err : goal.returns-in-Err
returns-in-Err g c =
    record {
      ends = (ClassRefused, code_line (codes "class refused ") (number_of c.args.code), refl, c.in-Err.ensures.part);
      later = c.in-Err.ensures.later;
      cut = λ cut. c.in-Err.ensures.failed;
    }
