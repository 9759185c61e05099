use Rattle.lowered_rows.proofs.Computed.{rows_of_texts-texts, rows_of_texts-questions}
use Rattle.lowered_rows.proofs.rows.rows_of_texts.Goals as goal

pub returns-clause-texts : goal.returns-clause-texts
returns-clause-texts c = rows_of_texts-texts

pub returns-clause-questions : goal.returns-clause-questions
returns-clause-questions c = rows_of_texts-questions
