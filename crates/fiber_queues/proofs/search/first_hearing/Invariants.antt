use Rattle.std.proofs.Common.{◌≡◌, take, []}
use Rattle.board_world.specs.Waiting.{chosen, hears}
use Rattle.fiber_queues.proofs.search.first_hearing.Given as goal

-- none of those before hears it
abbrev pub invariant-loop-at : goal.invariant-loop-at
invariant-loop-at l = chosen (hears l.event) (take l.at l.waiters) ≡ []
