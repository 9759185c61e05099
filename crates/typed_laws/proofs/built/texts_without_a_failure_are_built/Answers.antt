use Rattle.typed_laws.proofs.BuiltTexts.{texts_built, refusals_found}
use Rattle.typed_laws.proofs.built.texts_without_a_failure_are_built.Goals as goal

pub returns-clause-built : goal.returns-clause-built
returns-clause-built c = texts_built

pub returns-clause-refused : goal.returns-clause-refused
returns-clause-refused c = refusals_found
