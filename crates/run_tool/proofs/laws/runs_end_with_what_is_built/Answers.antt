use Rattle.run_tool.proofs.EndsBuilt.{ends-built}
use Rattle.run_tool.proofs.laws.runs_end_with_what_is_built.Goals as goal

pub returns : goal.returns
returns c = ends-built c.images_are_one.ensures
