use Rattle.image_link.proofs.Alike.{alike}
use Rattle.image_link.proofs.theorems.images_are_alike.Goals as goal

pub returns : goal.returns
returns c = alike
