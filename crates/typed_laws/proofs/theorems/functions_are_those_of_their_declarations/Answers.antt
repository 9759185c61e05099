use Rattle.typed_laws.proofs.OwnFunctions.{functions_declared}
use Rattle.typed_laws.proofs.theorems.functions_are_those_of_their_declarations.Goals as goal

pub returns : goal.returns
returns c = functions_declared
