use Rattle.typed_laws.proofs.LibraryWhole.{functions_typed}
use Rattle.typed_laws.proofs.library.library_functions_have_types.Goals as goal

pub returns : goal.returns
returns c = functions_typed
