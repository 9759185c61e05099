use Rattle.std.proofs.Common.{◌≡◌}
use Rattle.typed_trees.proofs.accumulator.Accumulator.into_seq.Given as goal

abbrev pub invariant-loop-item : goal.invariant-loop-item
invariant-loop-item g l = l.all ≡ l.yielded
