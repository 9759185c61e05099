use Rattle.sts_grammar.proofs.Programs.{one_program}
use Rattle.sts_grammar.proofs.theorems.one_program.Goals as goal

pub returns : goal.returns
returns c = one_program
