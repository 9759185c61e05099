use Rattle.std.proofs.Common.{◌≡◌, ap, ◌∙◌, inr}
use Rattle.std.specs.Prelude.{Err}
use Rattle.run_tool.specs.ClassBoards.{AnswersClassFile, refuses_class}
use Rattle.run_tool.specs.inner.{none_to_read}
use Rattle.run_tool.proofs.Endings.{gives-more}
use Rattle.run_tool.proofs.ClassAnswers.{refuses-class}
use Rattle.run_tool.proofs.classes.class_in.Goals as goal

pub returns-in-Err-Class-clause-none : goal.returns-in-Err-Class-clause-none
returns-in-Err-Class-clause-none g c =
    gives-more (λ answer. answer ≡ refuses_class c.in-Err-Class.code) (AnswersClassFile none_to_read c.args.text.now) c.say_class_refused.result
    (λ answer h. inr (
      c.in-Err-Class.code,
      refuses-class c.args.text.now c.read_class.result c.in-Err-Class.code (c.in-Err-Class.is ∙ ap Err c.in-Err-Class.field-0-is) c.read_class.ensures.not_json c.read_class.ensures.not_class
          c.read_class.ensures.bad_count c.read_class.ensures.end_differs,
      h,
    )) c.say_class_refused.ensures
