use Rattle.typed_program.proofs.OneAnswers.{answers}
use Rattle.typed_program.proofs.accepted_programs.one_answer.Goals as goal

pub returns : goal.returns
returns c = answers c.one_reading.ensures c.library_leaves_first.ensures c.derived_types_are_one.ensures c.one_program.ensures
