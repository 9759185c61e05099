use Rattle.std.proofs.Common.{◌≡◌, take, [], nat_le}
use Rattle.board_world.specs.Waiting.{chosen}
use Rattle.fiber_queues.proofs.search.first_due.Given as goal

-- none of those before is due
abbrev pub invariant-loop-at : goal.invariant-loop-at
invariant-loop-at l = chosen (λ wake. nat_le wake l.now) (take l.at l.sleepers) ≡ []
