use Rattle.std.proofs.Common.{ap, ◌∙◌, sym, subst, length, ◌<◌}
use Rattle.board_world.specs.Waiting.{handler_of}
use Rattle.message_bus.specs.BusState.{BusState}
use Rattle.message_bus.specs.Agreement.{hearings}
use Rattle.message_bus.proofs.Laws.{handler-ended}
use Rattle.fiber_runtime.specs.Moves.{restarted}
use Rattle.board_run.proofs.Ends.{length_changed}
use Rattle.board_run.proofs.EndServices.{leave_serves, leave_listener, again_serves, listener_stands}
use Rattle.board_run.proofs.engine.Engine.end_fiber.Goals as goal

pub again-requires-clause-stands : goal.again-requires-clause-stands
again-requires-clause-stands c = listener_stands c.args.self.now c.requires.shown c.in-Some.at c.requires.runs c.in-Some.ensures

pub begin_again-requires-clause-stands : goal.begin_again-requires-clause-stands
begin_again-requires-clause-stands c =
    subst (λ n. c.in-Some.at < n) (sym (ap (λ (b : BusState). length b.listeners) c.in-Some-again.ensures.after ∙ length_changed c.in-Some.at c.args.self.now.bus.listeners))
    (listener_stands c.args.self.now c.requires.shown c.in-Some.at c.requires.runs c.in-Some.ensures)

pub returns-in-None-clause-served : goal.returns-in-None-clause-served
returns-in-None-clause-served c = leave_serves c.args.self.now c.end.new.runtime c.in-None.ensures c.end.ensures

pub returns-in-None-again-clause-served : goal.returns-in-None-again-clause-served
returns-in-None-again-clause-served c =
    leave_listener c.args.self.now c.end-in-None-again.new.runtime c.again.new.self c.in-Some.at c.in-Some.ensures c.in-None-again.ensures.next c.in-None-again.ensures.after c.end-in-None-again.ensures

pub returns-in-Some-again-clause-served : goal.returns-in-Some-again-clause-served
returns-in-Some-again-clause-served c =
    again_serves c.args.self.now c.begin_again.new.runtime c.again.new.self c.in-Some.at c.in-Some-again.event c.in-Some.ensures c.in-Some-again.ensures.next c.in-Some-again.ensures.after
    (λ t runs. c.begin_again.ensures t runs ∙ ap (λ x. restarted x (record t { value = c.in-Some-again.event.value }) c.args.self.now.runtime)
    (ap (λ (b : BusState). handler_of c.in-Some.at (hearings b.listeners)) c.in-Some-again.ensures.after ∙ handler-ended c.in-Some.at c.in-Some.at c.args.self.now.bus.listeners))
