use Rattle.sts_syntax.proofs.Laws.{make_tree}
use Rattle.sts_syntax.proofs.build.make.Goals as goal

pub returns : goal.returns
returns c = make_tree c.args.at c.args.class c.args.args
