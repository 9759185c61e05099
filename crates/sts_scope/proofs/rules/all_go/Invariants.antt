use Rattle.std.proofs.Common.{◌≡◌, drop}
use Rattle.sts_scope.specs.Rules as rule
use Rattle.sts_scope.proofs.rules.all_go.Given as goal

abbrev pub invariant-loop-i : goal.invariant-loop-i
invariant-loop-i l = rule.all_go l.known.classes (drop l.i l.ss) (drop l.i l.ts) ≡ rule.all_go l.known.classes l.ss l.ts
