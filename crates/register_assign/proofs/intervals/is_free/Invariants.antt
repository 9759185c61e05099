use Rattle.std.proofs.Common.{◌≡◌, true}
use Rattle.register_assign.specs.Chosen.{is_free_to}
use Rattle.register_assign.proofs.intervals.is_free.Given as goal

abbrev pub invariant-loop-u : goal.invariant-loop-u
invariant-loop-u l = is_free_to l.register l.places l.intervals l.fn.interval l.u ≡ true
