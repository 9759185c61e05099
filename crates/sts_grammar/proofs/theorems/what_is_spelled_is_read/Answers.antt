use Rattle.sts_grammar.proofs.Complete.{complete_expr, complete_stmt}
use Rattle.sts_grammar.proofs.theorems.what_is_spelled_is_read.Goals as goal

pub returns : goal.returns
returns c = record { operand = complete_expr; statement = complete_stmt }
