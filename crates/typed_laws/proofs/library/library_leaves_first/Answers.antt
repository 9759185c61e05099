use Rattle.typed_laws.proofs.LibraryWhole.{leaves_first}
use Rattle.typed_laws.proofs.library.library_leaves_first.Goals as goal

pub returns : goal.returns
returns c = λ new program names texts h. leaves_first c.one_program.ensures new program names texts h
