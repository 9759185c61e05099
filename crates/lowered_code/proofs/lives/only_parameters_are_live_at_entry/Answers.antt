use Rattle.lowered_code.proofs.Starts.{program_starts}
use Rattle.lowered_code.proofs.lives.only_parameters_are_live_at_entry.Goals as goal

pub returns : goal.returns
returns c = λ P typed. program_starts P typed
