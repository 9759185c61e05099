use Rattle.sts_scope.specs.Lines.{AreLines}
use Rattle.sts_scope.proofs.lines.lines_of.Given as goal

abbrev pub invariant-loop-c : goal.invariant-loop-c
invariant-loop-c l = AreLines l.entries l.classes l.all
