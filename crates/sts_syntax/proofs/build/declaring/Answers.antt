use Rattle.sts_syntax.proofs.Laws.{let_statement}
use Rattle.sts_syntax.proofs.build.declaring.Goals as goal

pub returns : goal.returns
returns c = let_statement c.args.at c.args.fixed c.args.each
