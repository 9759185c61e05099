use Rattle.sts_lexer.proofs.Growing.{tokenization_stays}
use Rattle.sts_lexer.proofs.theorems.spellings_stay.Goals as goal

pub returns : goal.returns
returns c = record { tokens = tokenization_stays }
