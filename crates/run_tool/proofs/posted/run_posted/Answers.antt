use Rattle.std.proofs.Common.{◌∙◌, arith}
use Rattle.run_tool.proofs.PostedRuns.{named, posted, nothing-posted}
use Rattle.run_tool.proofs.posted.run_posted.Goals as goal

pub returns-in-Ok : goal.returns-in-Ok
returns-in-Ok g c =
    posted _ c.one_answer.ensures _ _ _ _ _ _ c.run_named_files.result c.number.result c.in-Ok.ensures (λ r. omega (arith, r)) (c.name_of.ensures ∙ named c.args.script) c.number.ensures c.run_named_files.ensures

pub returns-in-Err : goal.returns-in-Err
returns-in-Err g c = nothing-posted _ c.one_answer.ensures _ _ _ _ _ c.number-in-Err.result c.number-in-Err.ensures
