use Rattle.meaning_sound.proofs.Turns.{source_sound}
use Rattle.meaning_sound.proofs.soundness.typed_steps_stay_typed.Goals as goal

pub returns : goal.returns
returns c = (λ P texts good. source_sound P good texts)
