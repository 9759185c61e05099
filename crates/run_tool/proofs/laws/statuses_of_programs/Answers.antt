use Rattle.run_tool.proofs.ProgramStatuses.{statuses}
use Rattle.run_tool.proofs.laws.statuses_of_programs.Goals as goal

pub returns : goal.returns
returns c = λ told text. statuses c.one_answer.ensures told text
