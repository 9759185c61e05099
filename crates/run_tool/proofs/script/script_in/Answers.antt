use Rattle.std.proofs.Common.{◌≡◌, ap, ◌∙◌, inr}
use Rattle.std.specs.Prelude.{Err, codes}
use Rattle.event_script.specs.Codes.{number_of}
use Rattle.run_tool.specs.declared.ending.Status.TheVariants.{ScriptRefused}
use Rattle.run_tool.specs.Answers.{says}
use Rattle.run_tool.specs.Scripts.{AnswersScript}
use Rattle.run_tool.specs.Files.{code_line}
use Rattle.run_tool.specs.inner.{none_to_read}
use Rattle.run_tool.proofs.Endings.{gives-more, refuses-script}
use Rattle.run_tool.proofs.script.script_in.Goals as goal

pub returns-in-Err-Script-clause-none : goal.returns-in-Err-Script-clause-none
returns-in-Err-Script-clause-none g c =
    gives-more (λ answer. answer ≡ says ScriptRefused (code_line (codes "script refused ") (number_of c.in-Err-Script.code))) (AnswersScript none_to_read c.args.text.now) c.say_script_refused.result
    (λ answer h. inr (
      c.in-Err-Script.code,
      refuses-script c.args.text.now c.read_script.result c.in-Err-Script.code (c.in-Err-Script.is ∙ ap Err c.in-Err-Script.field-0-is) c.read_script.ensures.not_json c.read_script.ensures.not_script
          c.read_script.ensures.out_of_order c.read_script.ensures.past_end c.read_script.ensures.too_many,
      h,
    )) c.say_script_refused.ensures
