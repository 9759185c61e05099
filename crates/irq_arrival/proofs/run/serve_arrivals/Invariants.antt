use Rattle.std.proofs.Common.{◌≤◌, drop}
use Rattle.arrival_file.specs.World.{world_arrivals}
use Rattle.board_run.specs.Outside.{over_sink}
use Rattle.irq_arrival.specs.Underway.{Stands}
use Rattle.irq_arrival.proofs.run.serve_arrivals.Given as goal

-- the board stands at so many executed instructions, and the arrivals from this one on are left
abbrev pub invariant-loop-arrival : goal.invariant-loop-arrival
invariant-loop-arrival g l =
    Stands g.D.Device.account (world_arrivals l.arrivals) l.budget (over_sink g.K.Sink.taken g.K.Sink.faults l.fn.board l.fn.out) (over_sink g.K.Sink.taken g.K.Sink.faults l.board l.out) (world_arrivals (drop l.arrival-index l.arrivals)) l.done
    × (g.K.Sink.faults l.fn.out ≤ g.K.Sink.faults l.out)
