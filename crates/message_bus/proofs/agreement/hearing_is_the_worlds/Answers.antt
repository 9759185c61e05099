use Rattle.message_bus.proofs.Keeping.{begun-agrees, held-agrees, numbers-agree, begins-agrees}
use Rattle.message_bus.proofs.agreement.hearing_is_the_worlds.Goals as goal

pub returns-clause-begun : goal.returns-clause-begun
returns-clause-begun g c make e b w h = begun-agrees make e b w h

pub returns-clause-by_number : goal.returns-clause-by_number
returns-clause-by_number g c make e b w h = numbers-agree make e b w h

pub returns-clause-begins : goal.returns-clause-begins
returns-clause-begins g c make e b w h = begins-agrees make e b w h

pub returns-clause-held : goal.returns-clause-held
returns-clause-held g c e b w h = held-agrees e b w h
