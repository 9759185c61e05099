use Rattle.typed_laws.proofs.Accepting.{accepted}
use Rattle.typed_laws.proofs.theorems.accepted_texts_are_well_typed.Goals as goal

pub returns : goal.returns
returns c = accepted
