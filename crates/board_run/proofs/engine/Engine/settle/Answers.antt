use Rattle.board_run.proofs.Settling.{settling_start}
use Rattle.board_run.proofs.engine.Engine.settle.Goals as goal

pub returns-else-not-is_running-clause-idles : goal.returns-else-not-is_running-clause-idles
returns-else-not-is_running-clause-idles g c = (settling_start g.D.Device.account c.args.self.now c.args.plugs.now c.requires.shown c.requires.within).idles
