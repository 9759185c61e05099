use Rattle.std.proofs.Common.{◌≡◌, ◌+◌, subst, arith}
use Rattle.board_run.specs.Outside.{over_sink}
use Rattle.board_run.specs.Advancing.{of_moment, Proceeds}
use Rattle.board_run.proofs.Executing.{on_err, fails_then}
use Rattle.board_run.proofs.Proceeding.{proceeds_none, proceeds_then, stands_none, stands_then}
use Rattle.board_run.proofs.board.Board.proceed.Goals as goal

pub loop-init : goal.loop-init
loop-init g c =
    (proceeds_none g.D.Device.account c.args.lead.now (over_sink g.K.Sink.taken g.K.Sink.faults c.args.self.now c.args.out.now), stands_none c.args.self.now, c.requires.whole, c.requires.stayed, omega arith, omega arith)

pub loop-preserved : goal.loop-preserved
loop-preserved g c =
    let i = c.loop.invariant in
    let count : 1 + c.loop.counter ≡ c.loop.counter + 1 = omega arith in (
      subst (λ n. Proceeds g.D.Device.account c.args.lead.now n (over_sink g.K.Sink.taken g.K.Sink.faults c.args.self.now c.args.out.now) (over_sink g.K.Sink.taken g.K.Sink.faults c.advance_here.new.self c.advance_here.new.out)) count
          (proceeds_then g.D.Device.account c.args.lead.now c.loop.counter 1 (over_sink g.K.Sink.taken g.K.Sink.faults c.args.self.now c.args.out.now) (over_sink g.K.Sink.taken g.K.Sink.faults c.loop.self c.loop.out)
          (over_sink g.K.Sink.taken g.K.Sink.faults c.advance_here.new.self c.advance_here.new.out) i.0 c.in_ok-advance_here.ensures.goes),
      stands_then c.args.self.now c.loop.self c.advance_here.new.self i.1 c.in_ok-advance_here.ensures.stands,
      c.in_ok-advance_here.ensures.whole,
      c.in_ok-advance_here.ensures.stayed,
      omega (arith, c.advance_here.ensures.counted, i.4),
      omega (arith, c.advance_here.ensures.later, i.5),
    )

pub returns-in_err-advance_here-clause-cut : goal.returns-in_err-advance_here-clause-cut
returns-in_err-advance_here-clause-cut g c =
    on_err c.from_residual.result
    (fails_then g.D.Device.account (of_moment c.args.lead.now) c.loop.counter 1 c.args.most (over_sink g.K.Sink.taken g.K.Sink.faults c.args.self.now c.args.out.now) (over_sink g.K.Sink.taken g.K.Sink.faults c.loop.self c.loop.out)
    (over_sink g.K.Sink.taken g.K.Sink.faults c.advance_here.new.self c.advance_here.new.out) c.loop.invariant.0.advances c.in_err-advance_here.ensures.cut (omega (arith, c.loop-test.true)))
