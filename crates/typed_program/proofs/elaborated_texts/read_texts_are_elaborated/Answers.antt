use Rattle.typed_program.proofs.ReadTexts.{on_read}
use Rattle.typed_program.proofs.elaborated_texts.read_texts_are_elaborated.Goals as goal

pub returns : goal.returns
returns c = on_read c.library_leaves_first.ensures c.prelude_is_library.ensures c.elaboration_agrees_on_texts.ensures
