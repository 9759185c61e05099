use Rattle.std.proofs.Common.{◌≡◌, ap, ◌∙◌, ◌++◌, inr, subst, sym}
use Rattle.std.specs.Prelude.{Ok, Err, codes}
use Rattle.event_script.specs.Codes.{number_of}
use Rattle.event_script.specs.Sound.{IsSound}
use Rattle.event_script.specs.Verdict.{Tells}
use Rattle.class_file.specs.declared.class.ClassCode.TheVariants.{EndDiffers}
use Rattle.run_tool.specs.declared.ending.Status.TheVariants.{ScriptRefused}
use Rattle.run_tool.specs.Answers.{says}
use Rattle.run_tool.specs.Files.{code_line}
use Rattle.run_tool.specs.inner.{none_to_read}
use Rattle.run_tool.specs.ClassBoards.{refuses_class, AnswersBoardScript, no_script, other_end}
use Rattle.class_world.specs.Lines.{board_lead}
use Rattle.run_tool.proofs.Endings.{if-ok, gives-more, refuses-script}
use Rattle.run_tool.proofs.ClassAnswers.{if-errs, ok-so}
use Rattle.run_tool.proofs.class_boards.script_in.Goals as goal

pub returns-in-Ok-clause-script : goal.returns-in-Ok-clause-script
returns-in-Ok-clause-script g c = if-ok c.with_end.result (λ it e. subst (λ s. Tells c.args.text.now (Ok s)) (sym e) c.in-Ok.ensures.ok) c.with_end.ensures.same

pub returns-in-Ok-clause-sound : goal.returns-in-Ok-clause-sound
returns-in-Ok-clause-sound g c = if-ok c.with_end.result (λ it e. subst IsSound (sym e) c.in-Ok.ensures.sound) c.with_end.ensures.same

pub returns-in-Ok-clause-ends : goal.returns-in-Ok-clause-ends
returns-in-Ok-clause-ends g c = ok-so c.with_end.result (λ it e ends. ap (λ s. s.end) e ∙ ends) c.with_end.ensures.same c.with_end.ensures.ends

pub returns-in-Ok-clause-none : goal.returns-in-Ok-clause-none
returns-in-Ok-clause-none g c =
    if-errs c.with_end.result (λ ending differs h. gives-more (λ answer. answer ≡ refuses_class EndDiffers) (AnswersBoardScript c.args.board.number c.args.board.end none_to_read c.args.text.now) ending
    (λ answer x. inr (other_end c.in-Ok.script, (c.in-Ok.ensures.ok, differs), x)) h) c.with_end.ensures.differs c.with_end.ensures.none

pub returns-in-Err-Script-clause-none : goal.returns-in-Err-Script-clause-none
returns-in-Err-Script-clause-none g c =
    gives-more (λ answer. answer ≡ says ScriptRefused (board_lead c.args.board.number ++ code_line (codes "script refused ") (number_of c.in-Err-Script.code))) (AnswersBoardScript c.args.board.number c.args.board.end none_to_read c.args.text.now)
    c.say_script_refused.result
    (λ answer h. inr (
      no_script c.in-Err-Script.code,
      refuses-script c.args.text.now c.read_script.result c.in-Err-Script.code (c.in-Err-Script.is ∙ ap Err c.in-Err-Script.field-0-is) c.read_script.ensures.not_json c.read_script.ensures.not_script
          c.read_script.ensures.out_of_order c.read_script.ensures.past_end c.read_script.ensures.too_many,
      h,
    )) c.say_script_refused.ensures
