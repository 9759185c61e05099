use Rattle.std.proofs.Common.{◌≡◌}
use Rattle.register_assign.specs.Intervals.{AreIntervals}
use Rattle.register_assign.specs.Chosen.{intervals_to}
use Rattle.register_assign.proofs.assignment.intervals_of.Given as goal

abbrev pub invariant-loop-t : goal.invariant-loop-t
invariant-loop-t l = AreIntervals l.function l.intervals.items l.t × (l.intervals.items ≡ intervals_to l.function l.t)
