use Rattle.thumb_layout.proofs.Holding.{code_holds}
use Rattle.thumb_layout.proofs.Soundness.{sound_ignores}
use Rattle.thumb_layout.proofs.theorems.laid_code_holds.Goals as goal

pub returns-clause-holds : goal.returns-clause-holds
returns-clause-holds c = λ flash base b entry word_of xs s w hb four room h. code_holds flash base b entry word_of xs s w hb four room h

pub returns-clause-anywhere : goal.returns-clause-anywhere
returns-clause-anywhere c = sound_ignores
