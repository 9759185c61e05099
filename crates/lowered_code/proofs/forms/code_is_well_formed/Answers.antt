use Rattle.std.proofs.Common.{refl}
use Rattle.lowered_code.proofs.Programs.{program_formed}
use Rattle.lowered_code.proofs.forms.code_is_well_formed.Goals as goal

pub returns-clause-formed : goal.returns-clause-formed
returns-clause-formed c = λ P texts typed limits. program_formed P typed texts limits

pub returns-clause-frames : goal.returns-clause-frames
returns-clause-frames c = λ P f r. refl
