use Rattle.typed_program.proofs.ElaboratedTexts.{agrees}
use Rattle.typed_program.proofs.elaborated_texts.elaboration_agrees_on_texts.Goals as goal

pub returns : goal.returns
returns c = agrees c.texts_without_a_failure_are_built.ensures.built
