use Rattle.std.proofs.Common.{◌≡◌, drop}
use Rattle.board_run.specs.Going.{queued_all}
use Rattle.board_run.proofs.idle.raise_all.Given as goal

-- what is left leads to the same queue
abbrev pub invariant-loop-event : goal.invariant-loop-event
invariant-loop-event l = (l.bus ≡ record l.fn.bus { queue = l.bus.queue }) × (queued_all (drop l.event-index l.events) l.bus.queue ≡ queued_all l.fn.events l.fn.bus.queue)
