use Rattle.hex_image.proofs.AnswerLemmas.{one_reading-of}
use Rattle.hex_image.proofs.theorems.one_reading.Goals as goal

pub returns : goal.returns
returns c = one_reading-of
