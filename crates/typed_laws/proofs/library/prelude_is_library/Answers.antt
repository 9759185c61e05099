use Rattle.typed_laws.proofs.LibraryWhole.{prelude_so}
use Rattle.typed_laws.proofs.library.prelude_is_library.Goals as goal

pub returns : goal.returns
returns c = λ tokens names texts text kinds n x read derived. prelude_so tokens names texts text kinds n x read derived
