use Rattle.sts_grammar.proofs.Sound.{sound_expression, sound_statement}
use Rattle.sts_grammar.proofs.theorems.what_is_read_is_spelled.Goals as goal

pub returns : goal.returns
returns c = record { operand = sound_expression; statement = sound_statement }
