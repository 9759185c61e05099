use Rattle.std.proofs.Common.{◌≡◌, ◌-◌, length}
use Rattle.sts_scope.specs.Rules as rule
use Rattle.sts_scope.proofs.lookup.maker_takes.Given as goal

abbrev pub invariant-loop : goal.invariant-loop
invariant-loop l = rule.maker_from l.classes (length l.classes - l.counter) l.at ≡ rule.maker_from l.classes (length l.classes) l.c
