use Rattle.run_tool.proofs.Statuses.{statuses}
use Rattle.run_tool.proofs.laws.statuses_of_run_hex.Goals as goal

pub returns : goal.returns
returns c = statuses
