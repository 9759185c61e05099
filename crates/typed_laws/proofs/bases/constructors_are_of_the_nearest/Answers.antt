use Rattle.typed_laws.proofs.Climbing.{nearest_maker_takes, no_maker_takes}
use Rattle.typed_laws.proofs.bases.constructors_are_of_the_nearest.Goals as goal

pub returns-clause-written : goal.returns-clause-written
returns-clause-written g = λ classes c takes bases near h. nearest_maker_takes classes bases c takes near h

pub returns-clause-unwritten : goal.returns-clause-unwritten
returns-clause-unwritten g = λ classes c h. no_maker_takes classes c h
