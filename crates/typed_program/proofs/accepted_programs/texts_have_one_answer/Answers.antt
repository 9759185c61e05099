use Rattle.typed_program.proofs.SomeAnswers.{has_one}
use Rattle.typed_program.proofs.accepted_programs.texts_have_one_answer.Goals as goal

pub returns : goal.returns
returns c = has_one c.library_is_read.ensures c.texts_are_read_or_refused.ensures c.texts_with_tokens_have_an_answer.ensures c.one_answer.ensures
