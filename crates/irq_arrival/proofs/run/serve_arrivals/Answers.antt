use Rattle.std.proofs.Common.{◌+◌, ◌≤◌, ◌∷◌, List, drop, get_or, refl, subst, ap, arith}
use Rattle.board_world.specs.Runs.{Arrival as WorldArrival}
use Rattle.event_script.specs.declared.script.Act.TheVariants.{Down}
use Rattle.arrival_file.specs.World.{world_arrivals}
use Rattle.board_run.specs.declared.engine.Engine.{Engine}
use Rattle.board_run.specs.Outside.{over_sink}
use Rattle.irq_arrival.specs.Underway.{Stands}
use Rattle.irq_arrival.proofs.Listed.{world_arrival, next_at}
use Rattle.irq_arrival.proofs.Standing.{stands_begins, stands_stops, stands_takes}
use Rattle.irq_arrival.proofs.run.serve_arrivals.Goals as goal

pub loop-arrival-init : goal.loop-arrival-init
loop-arrival-init g c = (
  stands_begins g.D.Device.account c.args.arrivals.now c.args.budget c.requires.fresh.0 c.requires.fresh.1 (over_sink g.K.Sink.taken g.K.Sink.faults c.args.board.now c.args.out.now)
      c.requires.sound c.requires.fresh.2 c.requires.counted,
  omega arith,
)

pub returns-in-Some-clause-ended : goal.returns-in-Some-clause-ended
returns-in-Some-clause-ended g c =
    let xs = c.args.arrivals.now in
    let i = c.loop-arrival.arrival-index in
    let x = get_or xs i (record { after = 0; act = Down 0 }) in
    let rest = world_arrivals (drop (i + 1) xs) in
    let first = over_sink g.K.Sink.taken g.K.Sink.faults c.args.board.now c.args.out.now in
    let here = over_sink g.K.Sink.taken g.K.Sink.faults c.loop-arrival.board c.loop-arrival.out in
    let parted = over_sink g.K.Sink.taken g.K.Sink.faults c.run_up_to.new.board c.run_up_to.new.out in
    let s = subst (λ (l : List WorldArrival). Stands g.D.Device.account (world_arrivals xs) c.args.budget first here l c.loop-arrival.done)
    (next_at xs i (record { after = 0; act = Down 0 }) (omega (arith, c.loop-arrival-test.true))) c.loop-arrival.invariant.0 in
    let none : x.after ≤ x.after = omega arith in
    stands_stops g.D.Device.account (world_arrivals xs) c.args.budget first here (world_arrival x ∷ rest) c.loop-arrival.done s x.after parted c.in-Some.end
    s.rises.0 (omega (arith, c.if-arrival-budget.false)) none c.loop-arrival.invariant.1 c.in-Some.ensures.parted

pub loop-arrival-preserved : goal.loop-arrival-preserved
loop-arrival-preserved g c =
    let xs = c.args.arrivals.now in
    let i = c.loop-arrival.arrival-index in
    let x = get_or xs i (record { after = 0; act = Down 0 }) in
    let rest = world_arrivals (drop (i + 1) xs) in
    let first = over_sink g.K.Sink.taken g.K.Sink.faults c.args.board.now c.args.out.now in
    let here = over_sink g.K.Sink.taken g.K.Sink.faults c.loop-arrival.board c.loop-arrival.out in
    let parted = over_sink g.K.Sink.taken g.K.Sink.faults c.run_up_to.new.board c.run_up_to.new.out in
    let s = subst (λ (l : List WorldArrival). Stands g.D.Device.account (world_arrivals xs) c.args.budget first here l c.loop-arrival.done)
    (next_at xs i (record { after = 0; act = Down 0 }) (omega (arith, c.loop-arrival-test.true))) c.loop-arrival.invariant.0 in (
      stands_takes g.D.Device.account (world_arrivals xs) c.args.budget first here parted (over_sink g.K.Sink.taken g.K.Sink.faults c.arrive.new.self c.run_up_to.new.out) (world_arrival x) rest c.loop-arrival.done
          s c.in-None.ensures.parted c.in-None.ensures.settled (omega (arith, c.if-arrival-budget.false))
          c.arrive.ensures.arrives (ap (λ (e : Engine). e.end) c.arrive.ensures.stays) c.arrive.ensures.ports refl c.arrive.ensures.whole c.arrive.ensures.settled c.arrive.ensures.counted,
      omega (arith, c.loop-arrival.invariant.1, c.run_up_to.ensures.later),
    )
