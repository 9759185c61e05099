use Rattle.std.proofs.Common.{◌≡◌, ap, ◌∙◌, inr}
use Rattle.std.specs.Prelude.{Err, codes}
use Rattle.arrival_file.specs.Codes.{number_of}
use Rattle.run_tool.specs.declared.ending.Status.TheVariants.{ArrivalsRefused}
use Rattle.run_tool.specs.Answers.{says}
use Rattle.run_tool.specs.RunAt.{AnswersArrivals}
use Rattle.run_tool.specs.Files.{code_line}
use Rattle.run_tool.specs.inner.{none_to_read}
use Rattle.run_tool.proofs.Endings.{gives-more}
use Rattle.run_tool.proofs.RunsAt.{refuses-arrivals}
use Rattle.run_tool.proofs.arrivals.arrivals_in.Goals as goal

pub returns-in-Err-Arrivals-clause-none : goal.returns-in-Err-Arrivals-clause-none
returns-in-Err-Arrivals-clause-none g c =
    gives-more (λ answer. answer ≡ says ArrivalsRefused (code_line (codes "arrivals refused ") (number_of c.in-Err-Arrivals.code))) (AnswersArrivals none_to_read c.args.text.now) c.say_arrivals_refused.result
    (λ answer h. inr (
      c.in-Err-Arrivals.code,
      refuses-arrivals c.args.text.now c.read_arrivals.result c.in-Err-Arrivals.code (c.in-Err-Arrivals.is ∙ ap Err c.in-Err-Arrivals.field-0-is) c.read_arrivals.ensures.not_json c.read_arrivals.ensures.not_arrivals
          c.read_arrivals.ensures.out_of_order c.read_arrivals.ensures.too_many,
      h,
    )) c.say_arrivals_refused.ensures
