use Rattle.sts_scope.specs.Rules.{is_nothing}
use Rattle.type_check.proofs.NoHandler.{takes_some}
use Rattle.type_check.proofs.failure.may_serve.Goals as goal

pub returns-in-len1-up : goal.returns-in-len1-up
returns-in-len1-up c = takes_some c.args.params.now (is_nothing c.args.gives) c.in-len1-up.len_at_least
