use Rattle.board_run.proofs.FiberLeaves.{ended_is}
use Rattle.board_run.proofs.end_services.end.Goals as goal

pub returns-else-is_none : goal.returns-else-is_none
returns-else-is_none c = ended_is c.args.runtime.now c.end.new.self c.running.result c.running.ensures.key c.is_none.result c.is_none.ensures c.if-is_none.false c.end.ensures
