use Rattle.std.proofs.Common.{◌≡◌, ◌-◌, length}
use Rattle.sts_scope.specs.Rules as rule
use Rattle.sts_scope.proofs.lookup.reaches.Given as goal

abbrev pub invariant-loop : goal.invariant-loop
invariant-loop l = rule.reaches l.classes (length l.classes - l.counter) l.at l.n ≡ rule.reaches l.classes (length l.classes) l.m l.n
