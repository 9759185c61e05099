use Rattle.image_link.proofs.Linking.{can_be_linked}
use Rattle.image_link.proofs.theorems.emitted_code_can_be_linked.Goals as goal

pub returns : goal.returns
returns c = can_be_linked
