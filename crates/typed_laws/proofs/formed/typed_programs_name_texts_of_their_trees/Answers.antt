use Rattle.typed_laws.proofs.Laws.{typed_names}
use Rattle.typed_laws.proofs.formed.typed_programs_name_texts_of_their_trees.Goals as goal

pub returns : goal.returns
returns c = λ n tables library text kinds first second. typed_names n tables library text kinds first second
