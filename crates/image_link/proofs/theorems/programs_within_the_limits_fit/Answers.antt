use Rattle.image_link.proofs.Sizing.{image_most}
use Rattle.image_link.proofs.theorems.programs_within_the_limits_fit.Goals as goal

pub returns-clause-image : goal.returns-clause-image
returns-clause-image c = image_most
