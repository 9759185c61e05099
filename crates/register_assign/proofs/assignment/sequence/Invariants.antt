use Rattle.std.proofs.Common.{◌≡◌, take}
use Rattle.register_assign.proofs.assignment.sequence.Given as goal

abbrev pub invariant-loop-place : goal.invariant-loop-place
invariant-loop-place l = l.list ≡ take l.place-index l.places
