use Rattle.sts_lexer.proofs.SameNumbers.{one_numbering}
use Rattle.sts_lexer.proofs.theorems.one_numbering.Goals as goal

pub returns : goal.returns
returns c = record { one = one_numbering }
