use Rattle.board_run.specs.Represents.{state_of}
use Rattle.board_run.proofs.ClockMoves.{still_idles}
use Rattle.board_run.proofs.engine.Engine.idle.Goals as goal

pub returns-else-not-dispatch-clause-idles : goal.returns-else-not-dispatch-clause-idles
returns-else-not-dispatch-clause-idles g c = still_idles g.D.Device.account (state_of c.args.self.now) (state_of c.dispatch.new.self) c.args.plugs.now c.if-not-dispatch.ensures.comes
