use Rattle.sts_grammar.proofs.Programs.{program_is_read}
use Rattle.sts_grammar.proofs.theorems.the_program_is_read.Goals as goal

pub returns : goal.returns
returns c = program_is_read
