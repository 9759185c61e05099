use Rattle.board_run.proofs.Begins.{handler_found, begun_is}
use Rattle.board_run.proofs.begin.begin_handler.Goals as goal

pub returns : goal.returns
returns c =
    begun_is c.args.runtime.now c.invoke.new.runtime c.set_listener.new.self _ _ c.args.at c.args.event c.invoke.ensures.after c.set_listener.ensures
    (handler_found c.args.bus.now.listeners c.args.at c.in-Some.listener c.in-Some.ensures.value)
