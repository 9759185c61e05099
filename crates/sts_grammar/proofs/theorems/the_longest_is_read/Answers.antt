use Rattle.sts_grammar.proofs.Unique.{longest_read, none_read, longest_statement, no_statement}
use Rattle.sts_grammar.proofs.theorems.the_longest_is_read.Goals as goal

pub returns : goal.returns
returns c = record { longest_tree = longest_read; no_tree = none_read; longest_statement = longest_statement; no_statement = no_statement }
