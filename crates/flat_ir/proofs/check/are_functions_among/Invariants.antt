use Rattle.std.proofs.Common.{take}
use Rattle.std.specs.List.{AllByRecursion}
use Rattle.flat_ir.specs.WellFormed.{IsFunctionAmong}
use Rattle.flat_ir.proofs.check.are_functions_among.Given as goal

abbrev pub invariant-loop-f : goal.invariant-loop-f
invariant-loop-f l = AllByRecursion (IsFunctionAmong l.functions l.classes) (take l.f-index l.all)
