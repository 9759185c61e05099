use Rattle.std.proofs.Common.{◌≡◌, ◌+◌, subst, arith}
use Rattle.board_run.specs.Outside.{over_sink}
use Rattle.board_run.specs.Advancing.{of_run, Advances}
use Rattle.board_run.proofs.Executing.{advances_none, advances_then, fails_then, on_err}
use Rattle.board_run.proofs.board.Board.execute.Goals as goal

pub loop-init : goal.loop-init
loop-init g c =
    (advances_none g.D.Device.account of_run (over_sink g.K.Sink.taken g.K.Sink.faults c.args.self.now c.args.out.now), c.requires.whole, c.requires.settled, omega arith, omega arith)

pub loop-preserved : goal.loop-preserved
loop-preserved g c =
    let i = c.loop.invariant in
    let count : 1 + c.loop.counter ≡ c.loop.counter + 1 = omega arith in (
      subst (λ n. Advances g.D.Device.account of_run n (over_sink g.K.Sink.taken g.K.Sink.faults c.args.self.now c.args.out.now) (over_sink g.K.Sink.taken g.K.Sink.faults c.advance.new.self c.advance.new.out)) count
          (advances_then g.D.Device.account of_run c.loop.counter 1 (over_sink g.K.Sink.taken g.K.Sink.faults c.args.self.now c.args.out.now) (over_sink g.K.Sink.taken g.K.Sink.faults c.loop.self c.loop.out)
          (over_sink g.K.Sink.taken g.K.Sink.faults c.advance.new.self c.advance.new.out) i.0 c.in_ok-advance.ensures.goes),
      c.in_ok-advance.ensures.whole,
      c.in_ok-advance.ensures.settled,
      omega (arith, c.advance.ensures.counted, i.3),
      omega (arith, c.advance.ensures.later, i.4),
    )

pub returns-in_err-advance-clause-cut : goal.returns-in_err-advance-clause-cut
returns-in_err-advance-clause-cut g c =
    on_err c.from_residual.result
    (fails_then g.D.Device.account of_run c.loop.counter 1 c.args.most (over_sink g.K.Sink.taken g.K.Sink.faults c.args.self.now c.args.out.now) (over_sink g.K.Sink.taken g.K.Sink.faults c.loop.self c.loop.out)
    (over_sink g.K.Sink.taken g.K.Sink.faults c.advance.new.self c.advance.new.out) c.loop.invariant.0 c.in_err-advance.ensures.cut (omega (arith, c.loop-test.true)))

pub returns-in_err-advance-clause-few : goal.returns-in_err-advance-clause-few
returns-in_err-advance-clause-few g c = omega (arith, c.advance.ensures.counted, c.loop.invariant.3, c.loop-test.true)
