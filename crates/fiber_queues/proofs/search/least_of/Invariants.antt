use Rattle.std.proofs.Common.{◌≡◌, drop}
use Rattle.board_world.specs.Rules.{earlier}
use Rattle.board_world.specs.Waiting.{least}
use Rattle.fiber_queues.proofs.search.least_of.Given as goal

-- the least so far and that of what is left are the least of all
abbrev pub invariant-loop-wake : goal.invariant-loop-wake
invariant-loop-wake l = earlier l.best (least (drop l.wake-index l.sleepers)) ≡ least l.fn.sleepers
