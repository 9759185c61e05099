use Rattle.std.proofs.Common.{◌≡◌}
use Rattle.register_assign.specs.Chosen.{interval_from, widened_to, empty_interval}
use Rattle.register_assign.proofs.Covering.{Covering}
use Rattle.register_assign.proofs.intervals.interval_of.Given as goal

abbrev pub invariant-loop-at : goal.invariant-loop-at
invariant-loop-at l =
    Covering l.ops l.t l.marks l.is_parameter l.at l.first l.end
    × (interval_from l.first l.end ≡ widened_to l.ops l.t (empty_interval l.ops l.is_parameter) l.at)
