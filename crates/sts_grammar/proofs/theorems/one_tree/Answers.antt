use Rattle.sts_grammar.proofs.Unique.{one_between, one_whole, one_longest, one_statement}
use Rattle.sts_grammar.proofs.theorems.one_tree.Goals as goal

pub returns : goal.returns
returns c = record { between = one_between; whole = one_whole; longest = one_longest; statement = one_statement }
