use Rattle.std.proofs.Common.{◌≡◌, drop}
use Rattle.sts_scope.specs.Rules as rule
use Rattle.sts_scope.proofs.rules.all_go_to.Given as goal

abbrev pub invariant-loop-i : goal.invariant-loop-i
invariant-loop-i l = rule.all_go_to l.known.classes l.t (drop l.i l.ss) ≡ rule.all_go_to l.known.classes l.t l.ss
