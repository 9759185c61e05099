use Rattle.std.proofs.Common.{◌≡◌}
use Rattle.register_assign.specs.Intervals.{AreHomes}
use Rattle.register_assign.specs.Chosen.{firsts, own_place}
use Rattle.register_assign.proofs.assignment.own_places.Given as goal

abbrev pub invariant-loop-t : goal.invariant-loop-t
invariant-loop-t l = AreHomes l.function l.places.items l.t × (l.places.items ≡ firsts (own_place l.function.params) l.t)
