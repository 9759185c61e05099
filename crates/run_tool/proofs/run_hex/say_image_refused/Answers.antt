use Rattle.std.proofs.Common.{refl}
use Rattle.std.specs.Prelude.{codes}
use Rattle.hex_image.specs.Codes.{number_of}
use Rattle.run_tool.specs.declared.ending.Status.TheVariants.{ImageRefused}
use Rattle.run_tool.specs.Files.{code_line}
use Rattle.run_tool.proofs.run_hex.say_image_refused.Goals as goal

pub returns-in-Err : goal.returns-in-Err
returns-in-Err g c =
    record {
      ends = (ImageRefused, code_line (codes "image refused ") (number_of c.args.code), refl, c.in-Err.ensures.part);
      later = c.in-Err.ensures.later;
      cut = λ cut. c.in-Err.ensures.failed;
    }
