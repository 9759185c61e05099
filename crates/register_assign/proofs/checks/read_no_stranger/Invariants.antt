use Rattle.std.proofs.Common.{take}
use Rattle.std.specs.List.{AllByRecursion}
use Rattle.register_assign.specs.Checks.{ReadsNoStranger}
use Rattle.register_assign.proofs.checks.read_no_stranger.Given as goal

abbrev pub invariant-loop-op : goal.invariant-loop-op
invariant-loop-op l = AllByRecursion (ReadsNoStranger l.known l.ops) (take l.op-index l.ops)
