use Rattle.std.proofs.Common.{vec_len}
use Rattle.sts_scope.specs.Lines.{AreLines}
use Rattle.sts_scope.proofs.lines.note_all.Given as goal

abbrev pub invariant-loop-c : goal.invariant-loop-c
invariant-loop-c l = AreLines l.entries l.classes l.all

abbrev pub decreases-loop-c : goal.decreases-loop-c
decreases-loop-c l = vec_len l.order
