use Rattle.typed_laws.proofs.Laws.{program_formed, program_texts_below}
use Rattle.typed_laws.proofs.formed.spelled_programs_are_formed.Goals as goal

pub returns-clause-formed : goal.returns-clause-formed
returns-clause-formed c = λ tables text tokens program read spelled. program_formed tables text tokens program read spelled

pub returns-clause-texts : goal.returns-clause-texts
returns-clause-texts c = λ tables text tokens program read spelled. program_texts_below tables text tokens program read spelled
