use Rattle.std.proofs.Common.{◌∙◌, ap}
use Rattle.fiber_runtime.specs.Moves.{restarted}
use Rattle.board_run.proofs.Begins.{handler_found}
use Rattle.board_run.proofs.end_services.begin_again.Goals as goal

pub returns : goal.returns
returns c = λ t runs.
    c.again.ensures.after t runs ∙ ap (λ x. restarted x (record t { value = c.args.event.value }) c.args.runtime.now) (handler_found c.args.bus.now.listeners c.args.at c.in-Some.listener c.in-Some.ensures.value)
