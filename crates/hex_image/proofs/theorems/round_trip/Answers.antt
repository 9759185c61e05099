use Rattle.hex_image.proofs.RoundLemmas.{round_trip-of}
use Rattle.hex_image.proofs.theorems.round_trip.Goals as goal

pub returns : goal.returns
returns c = round_trip-of
