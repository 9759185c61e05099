use Rattle.std.proofs.Common.{rules, refl}
use Rattle.run_tool.proofs.PostedRuns.{without}
use Rattle.run_tool.proofs.posted.run_named_files.Goals as goal

pub returns : goal.returns
returns g c = without _ _ _ _ c.run.result (search rules) c.run.ensures.answer
