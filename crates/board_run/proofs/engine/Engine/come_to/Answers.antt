use Rattle.board_run.proofs.ClockToEvents.{came_by}
use Rattle.board_run.proofs.engine.Engine.come_to.Goals as goal

pub returns-clause-came : goal.returns-clause-came
returns-clause-came g c =
    came_by g.D.Device.account c.args.self.now c.args.plugs.now c.arrive.new.plugs c.args.moment c.args.events.now c.requires.rising c.wake_due.new.self c.wake_due.ensures
    c.arrive.new.self c.arrive.ensures.stays c.arrive.ensures.arrived c.raise_all.new.bus c.raise_all.ensures
