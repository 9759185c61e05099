use Rattle.sts_syntax.proofs.Laws.{super_call_tree}
use Rattle.sts_syntax.proofs.build.super_call.Goals as goal

pub returns : goal.returns
returns c = super_call_tree c.args.at c.args.method c.args.args
