use Rattle.parse_unit.proofs.OpenBrackets.{SoFar}
use Rattle.parse_unit.proofs.brackets.first_deep.Given as goal

abbrev pub invariant-loop-token : goal.invariant-loop-token
invariant-loop-token l = SoFar l.tokens l.count l.token-index
