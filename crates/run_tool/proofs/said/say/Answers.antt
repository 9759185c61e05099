use Rattle.std.proofs.Common.{refl}
use Rattle.run_tool.proofs.said.say.Goals as goal

pub returns-in-Err-clause-answer : goal.returns-in-Err-clause-answer
returns-in-Err-clause-answer g c =
    record { ends = (c.args.status, c.args.line.now, refl, c.in-Err.ensures.part); later = c.in-Err.ensures.later; cut = λ cut. c.in-Err.ensures.failed }
