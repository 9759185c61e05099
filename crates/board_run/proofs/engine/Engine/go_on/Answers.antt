use Rattle.board_run.proofs.Settling.{settling_start, settling_begun, settling_idle}
use Rattle.board_run.proofs.engine.Engine.go_on.Goals as goal

pub loop-self-init : goal.loop-self-init
loop-self-init g c = settling_start g.D.Device.account c.args.self.now c.args.plugs.now c.requires.shown c.requires.within

pub loop-self-preserved : goal.loop-self-preserved
loop-self-preserved g c =
    let begun = settling_begun g.D.Device.account c.args.self.now c.loop-self.self c.begin.new.self c.args.plugs.now c.loop-self.plugs c.loop-self.invariant c.begin.ensures.comes c.begin.ensures.stays in
    settling_idle g.D.Device.account c.args.self.now c.begin.new.self c.idle.new.self c.args.plugs.now c.loop-self.plugs c.idle.new.plugs begun c.idle.ensures.idles c.idle.ensures.script c.idle.ensures.within c.idle.ensures.counts c.idle.ensures.early
