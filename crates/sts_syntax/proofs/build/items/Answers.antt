use Rattle.sts_syntax.proofs.Laws.{items_tree}
use Rattle.sts_syntax.proofs.build.items.Goals as goal

pub returns : goal.returns
returns c = items_tree c.args.at c.args.all
