use Rattle.typed_program.proofs.FilledTexts.{filled_typed}
use Rattle.typed_program.proofs.accepted_programs.filled_programs_are_typed.Goals as goal

pub returns : goal.returns
returns c = filled_typed c.library_leaves_first.ensures c.prelude_is_library.ensures c.texts_without_a_failure_are_built.ensures.built c.texts_without_a_failure_are_built.ensures.refused c.read_texts_are_elaborated.ensures
