use Rattle.typed_laws.proofs.LibraryWhole.{typed_light}
use Rattle.typed_laws.proofs.library.typed_library_is_light.Goals as goal

pub returns : goal.returns
returns c = λ tokens names texts text kinds n x read derived. typed_light tokens names texts text kinds n x read derived
