use Rattle.std.proofs.Common.{◌≡◌, ◌-◌, inl, refl, sym, subst, arith}
use Rattle.board_run.specs.Outside.{over_sink}
use Rattle.board_run.specs.Advancing.{of_run, HasExecuted}
use Rattle.board_run.proofs.Laws.{advances_none}
use Rattle.irq_arrival.proofs.run.run_up_to.Goals as goal

pub returns-else-to-done-clause-parted : goal.returns-else-to-done-clause-parted
returns-else-to-done-clause-parted g c =
    let here = over_sink g.K.Sink.taken g.K.Sink.faults c.args.board.now c.args.out.now in
    let none : c.args.to - c.args.done ≡ 0 = omega arith in
    let zero : HasExecuted g.D.Device.account 0 0 here here = record { advances = advances_none g.D.Device.account of_run here; within = omega arith; done = inl refl; counted = omega arith } in
    (subst (λ k. HasExecuted g.D.Device.account k k here here) (sym none) zero, c.requires.going)
