use Rattle.typed_laws.proofs.First.{own_names, own_texts, library_read}
use Rattle.typed_laws.proofs.library.library_is_read.Goals as goal

pub returns : goal.returns
returns c = record { names = own_names; texts = own_texts; program = _; read = library_read }
