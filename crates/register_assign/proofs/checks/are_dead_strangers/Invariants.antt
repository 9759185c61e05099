use Rattle.std.proofs.Common.{take}
use Rattle.std.specs.List.{AllByRecursion}
use Rattle.register_assign.specs.Checks.{IsDeadStranger}
use Rattle.register_assign.proofs.checks.are_dead_strangers.Given as goal

abbrev pub invariant-loop-t : goal.invariant-loop-t
invariant-loop-t l = AllByRecursion (IsDeadStranger l.known l.ops) (take l.t-index l.numbers)
