use Rattle.typed_program.proofs.TextPlaces.{refusal_within}
use Rattle.typed_program.proofs.refused_places.refusals_stand_in_their_texts.Goals as goal

pub returns : goal.returns
returns c = λ text code at r. refusal_within c.read_texts_are_elaborated.ensures text code at r
