use Rattle.sts_prelude.proofs.Resolving.{library_becomes}
use Rattle.sts_prelude.proofs.theorems.tree_becomes_routines.Goals as goal

pub returns : goal.returns
returns c = record { become = library_becomes }
