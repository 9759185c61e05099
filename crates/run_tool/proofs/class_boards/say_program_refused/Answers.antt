use Rattle.std.proofs.Common.{subst, inr}
use Rattle.typed_program.specs.Accepting as accepting
use Rattle.run_tool.specs.Answers.{Led}
use Rattle.run_tool.specs.Programs.{AnswersRefusal}
use Rattle.run_tool.specs.ClassBoards.{OverBoardProgram}
use Rattle.class_world.specs.Lines.{board_lead}
use Rattle.run_tool.specs.inner.{none_to_read}
use Rattle.run_tool.proofs.Endings.{gives-more}
use Rattle.run_tool.proofs.class_boards.say_program_refused.Goals as goal

pub refuse_program-requires-clause-within : goal.refuse_program-requires-clause-within
refuse_program-requires-clause-within g c =
    (c.refusals_stand_in_their_texts.ensures c.args.text.now c.in-Program.code c.in-Program.at (subst (λ x. accepting.RefusesText c.args.text.now x) c.in-Program.is c.requires)).0

pub refuse_program-requires-clause-fits : goal.refuse_program-requires-clause-fits
refuse_program-requires-clause-fits g c =
    (c.refusals_stand_in_their_texts.ensures c.args.text.now c.in-Program.code c.in-Program.at (subst (λ x. accepting.RefusesText c.args.text.now x) c.in-Program.is c.requires)).1

pub returns-in-Program : goal.returns-in-Program
returns-in-Program g c =
    let why = subst (λ x. accepting.RefusesText c.args.text.now x) c.in-Program.is c.requires in
    gives-more (Led (board_lead c.args.number) (AnswersRefusal c.args.text.now c.in-Program.code c.in-Program.at)) (OverBoardProgram c.args.number (λ tables. none_to_read) c.args.text.now) c.refuse_program.result
    (λ answer h. inr ((c.in-Program.code, c.in-Program.at), why, h)) c.refuse_program.ensures
