use Rattle.typed_program.proofs.SomeAnswers.{some_answer}
use Rattle.typed_program.proofs.accepted_programs.texts_with_tokens_have_an_answer.Goals as goal

pub returns : goal.returns
returns c = some_answer c.the_program_is_read.ensures c.derived_types_exist.ensures c.filled_programs_are_typed.ensures
