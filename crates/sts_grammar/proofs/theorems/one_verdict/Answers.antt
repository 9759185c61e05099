use Rattle.sts_grammar.proofs.Verdicts.{one_verdict}
use Rattle.sts_grammar.proofs.theorems.one_verdict.Goals as goal

pub returns : goal.returns
returns c = one_verdict
