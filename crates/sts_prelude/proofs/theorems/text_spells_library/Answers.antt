use Rattle.sts_prelude.proofs.Spelling.{library_spelled}
use Rattle.sts_prelude.proofs.theorems.text_spells_library.Goals as goal

pub returns : goal.returns
returns c = record { spelled = library_spelled }
