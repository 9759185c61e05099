use Rattle.std.proofs.Common.{take}
use Rattle.std.specs.List.{AllByRecursion}
use Rattle.flat_ir.specs.WellFormed.{IsOpWithin}
use Rattle.flat_ir.proofs.check.are_within.Given as goal

abbrev pub invariant-loop-op : goal.invariant-loop-op
invariant-loop-op l = AllByRecursion (IsOpWithin l.function.temporaries l.function.places l.function.outgoing) (take l.op-index l.ops)
