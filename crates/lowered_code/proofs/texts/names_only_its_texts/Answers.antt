use Rattle.lowered_code.proofs.Named.{program_named}
use Rattle.lowered_code.proofs.texts.names_only_its_texts.Goals as goal

pub returns : goal.returns
returns c = λ P. program_named P
