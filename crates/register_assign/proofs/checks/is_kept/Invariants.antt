use Rattle.std.proofs.Common.{◌≡◌, ℕ, ◌<◌, Some, slice_get}
use Rattle.flat_ir.specs.declared.ops.Op.{Op}
use Rattle.register_assign.specs.Checks.{IsClear}
use Rattle.register_assign.proofs.checks.is_kept.Given as goal

abbrev pub invariant-loop-at : goal.invariant-loop-at
invariant-loop-at l = (k : ℕ) (op : Op) → k < l.at → slice_get l.ops k ≡ Some op → IsClear op k l.places l.u l.marks
