use Rattle.sts_syntax.proofs.Laws.{block_statement}
use Rattle.sts_syntax.proofs.build.block.Goals as goal

pub returns : goal.returns
returns c = block_statement c.args.at c.args.all
