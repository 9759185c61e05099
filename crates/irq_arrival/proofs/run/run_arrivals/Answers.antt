use Rattle.std.proofs.Common.{ℕ, ◌+◌, ◌≤◌, List, [], None, subst, arith}
use Rattle.std.specs.Prelude.{Ok, Err}
use Rattle.board_world.specs.Transcript.{closing_line}
use Rattle.tool_io.specs.Putting.{Puts}
use Rattle.tool_io.proofs.Laws.{puts-none}
use Rattle.arrival_file.specs.declared.arrival.Arrival.{Arrival}
use Rattle.arrival_file.specs.World.{world_arrivals}
use Rattle.board_run.specs.Outside.{over_sink}
use Rattle.irq_arrival.specs.RanWith.{RanWith}
use Rattle.irq_arrival.specs.Underway.{Stands}
use Rattle.irq_arrival.proofs.Standing.{stands_stops, stands_finishes, none_sooner}
use Rattle.irq_arrival.proofs.run.run_arrivals.Goals as goal

pub returns-in-Err-clause-ran : goal.returns-in-Err-clause-ran
returns-in-Err-clause-ran g c =
    subst (λ (xs : List Arrival). RanWith g.D.Device.account (world_arrivals xs) c.args.budget (over_sink g.K.Sink.taken g.K.Sink.faults c.args.board.now c.args.out.now) (over_sink g.K.Sink.taken g.K.Sink.faults c.serve_arrivals.new.board c.serve_arrivals.new.out) c.in-Err.end)
    c.as_slice.ensures c.in-Err.ensures.ended

pub returns-in-Some-clause-ran : goal.returns-in-Some-clause-ran
returns-in-Some-clause-ran g c =
    let first = over_sink g.K.Sink.taken g.K.Sink.faults c.args.board.now c.args.out.now in
    let here = over_sink g.K.Sink.taken g.K.Sink.faults c.serve_arrivals.new.board c.serve_arrivals.new.out in
    let parted = over_sink g.K.Sink.taken g.K.Sink.faults c.run_up_to.new.board c.run_up_to.new.out in
    let served = c.in-Ok.ensures.served in
    let s = subst (λ (xs : List Arrival). Stands g.D.Device.account (world_arrivals xs) c.args.budget first here served.0 c.in-Ok.done) c.as_slice.ensures served.2 in
    stands_stops g.D.Device.account (world_arrivals c.args.arrivals.now) c.args.budget first here served.0 c.in-Ok.done s c.args.budget parted c.in-Some.end
    s.within (omega arith) (none_sooner c.args.budget (c.args.budget + 1) served.0 (omega arith) served.1) c.serve_arrivals.ensures.later c.in-Some.ensures.parted

pub returns-in-Ok-then_put_budget-clause-ran : goal.returns-in-Ok-then_put_budget-clause-ran
returns-in-Ok-then_put_budget-clause-ran g c =
    let mid = g.K.Sink.taken c.run_up_to.new.out in
    let fs = g.K.Sink.faults c.run_up_to.new.out in
    let first = over_sink g.K.Sink.taken g.K.Sink.faults c.args.board.now c.args.out.now in
    let here = over_sink g.K.Sink.taken g.K.Sink.faults c.serve_arrivals.new.board c.serve_arrivals.new.out in
    let parted = over_sink g.K.Sink.taken g.K.Sink.faults c.run_up_to.new.board c.run_up_to.new.out in
    let served = c.in-Ok.ensures.served in
    let s = subst (λ (xs : List Arrival). Stands g.D.Device.account (world_arrivals xs) c.args.budget first here served.0 c.in-Ok.done) c.as_slice.ensures served.2 in
    let put = subst (λ (now : ℕ). Puts mid (g.K.Sink.taken c.then_put_budget.new.out) fs (g.K.Sink.faults c.then_put_budget.new.out) (closing_line now None) (Ok c.in-Ok-then_put_budget.field-0)) c.clock-now.ensures
    (c.in-Ok-then_put_budget.ensures mid fs [] (puts-none mid fs)) in
    stands_finishes g.D.Device.account (world_arrivals c.args.arrivals.now) c.args.budget first here parted (g.K.Sink.taken c.then_put_budget.new.out) (g.K.Sink.faults c.then_put_budget.new.out) served.0 c.in-Ok.done
    (Ok c.in-Ok-then_put_budget.field-0) s c.in-None.ensures.parted c.in-None.ensures.settled served.1 (omega (arith, c.serve_arrivals.ensures.later, c.run_up_to.ensures.later)) put

pub returns-in-Err-then_put_budget-clause-ran : goal.returns-in-Err-then_put_budget-clause-ran
returns-in-Err-then_put_budget-clause-ran g c =
    let mid = g.K.Sink.taken c.run_up_to.new.out in
    let fs = g.K.Sink.faults c.run_up_to.new.out in
    let first = over_sink g.K.Sink.taken g.K.Sink.faults c.args.board.now c.args.out.now in
    let here = over_sink g.K.Sink.taken g.K.Sink.faults c.serve_arrivals.new.board c.serve_arrivals.new.out in
    let parted = over_sink g.K.Sink.taken g.K.Sink.faults c.run_up_to.new.board c.run_up_to.new.out in
    let served = c.in-Ok.ensures.served in
    let s = subst (λ (xs : List Arrival). Stands g.D.Device.account (world_arrivals xs) c.args.budget first here served.0 c.in-Ok.done) c.as_slice.ensures served.2 in
    let put = subst (λ (now : ℕ). Puts mid (g.K.Sink.taken c.then_put_budget.new.out) fs (g.K.Sink.faults c.then_put_budget.new.out) (closing_line now None) (Err c.in-Err-then_put_budget.field-0)) c.clock-now.ensures
    (c.in-Err-then_put_budget.ensures mid fs [] (puts-none mid fs)) in
    stands_finishes g.D.Device.account (world_arrivals c.args.arrivals.now) c.args.budget first here parted (g.K.Sink.taken c.then_put_budget.new.out) (g.K.Sink.faults c.then_put_budget.new.out) served.0 c.in-Ok.done
    (Err c.in-Err-then_put_budget.field-0) s c.in-None.ensures.parted c.in-None.ensures.settled served.1 (omega (arith, c.serve_arrivals.ensures.later, c.run_up_to.ensures.later)) put

pub returns-in-Err-then_put_budget-clause-later : goal.returns-in-Err-then_put_budget-clause-later
returns-in-Err-then_put_budget-clause-later g c =
    let mid = g.K.Sink.taken c.run_up_to.new.out in
    let fs = g.K.Sink.faults c.run_up_to.new.out in
    let put = c.in-Err-then_put_budget.ensures mid fs [] (puts-none mid fs) in
    let more : fs ≤ g.K.Sink.faults c.then_put_budget.new.out = put.later in
    omega (arith, c.serve_arrivals.ensures.later, c.run_up_to.ensures.later, more)
