use Rattle.std.proofs.Common.{[], ap, ◌∙◌}
use Rattle.sts_meaning.specs.Steps as source
use Rattle.lower_simulation.proofs.Functions.{routine_words}
use Rattle.lower_simulation.proofs.Whole.{lowering_keeps}
use Rattle.lower_simulation.proofs.lowering.lowered_code_does_what_the_source_does.Goals as goal

pub returns-clause-keeps : goal.returns-clause-keeps
returns-clause-keeps c = lowering_keeps

pub returns-clause-frames : goal.returns-clause-frames
returns-clause-frames c = λ P f r at. routine_words P [] f r at ∙ ap (source.words_in P []) at
