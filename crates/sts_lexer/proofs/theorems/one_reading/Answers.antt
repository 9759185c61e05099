use Rattle.sts_lexer.proofs.Unique.{tokens_same}
use Rattle.sts_lexer.proofs.Refusing.{tokens_or_refusal, refusal_once}
use Rattle.sts_lexer.proofs.theorems.one_reading.Goals as goal

pub returns : goal.returns
returns c = record { tokens = tokens_same; either = tokens_or_refusal; refusal = refusal_once }
