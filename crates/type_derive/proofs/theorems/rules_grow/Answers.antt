use Rattle.type_derive.proofs.ReturnsGrow.{rule_grows}
use Rattle.type_derive.proofs.theorems.rules_grow.Goals as goal

pub returns : goal.returns
returns c = rule_grows
