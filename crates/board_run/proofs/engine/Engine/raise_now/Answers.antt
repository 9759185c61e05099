use Rattle.std.proofs.Common.{ap, ◌∙◌, refl, arith, ◌∷◌}
use Rattle.fiber_runtime.specs.State.{State}
use Rattle.board_run.proofs.Few.{may_dispatch}
use Rattle.board_run.proofs.Services.{not_below}
use Rattle.board_run.proofs.EndServices.{nest_serves, wake_serves, refuse_nest, places_few}
use Rattle.board_run.specs.Shown.{PendingDispatch}
use Rattle.board_run.specs.Represents.{state_of}
use Rattle.board_run.proofs.engine.Engine.raise_now.Goals as goal

pub returns-in-Err-clause-served : goal.returns-in-Err-clause-served
returns-in-Err-clause-served c = λ at. (
  ap (λ (s : State). record c.args.self.now { runtime = s }) c.in-Err.ensures.full,
  refuse_nest c.args.self.now c.requires.inside c.asked_event-event.result c.asked_event-event.ensures c.if-begins.ensures.some (not_below _ _ c.in-Err.ensures.room.1) at,
)

pub place_for-place-requires : goal.place_for-place-requires
place_for-place-requires c = may_dispatch c.args.self.now.runtime.machine.memory.flash (state_of c.args.self.now) c.requires.shown.world c.requires.shown.shows

pub push-requires : goal.push-requires
push-requires c =
    let n = places_few _ c.args.self.now.runtime.raisers c.args.self.now.places c.requires.shown.shows.places in
    let room = c.in-Ok.ensures.room.0 refl in
    omega (arith, n, room)

pub returns-in-Ok-clause-served : goal.returns-in-Ok-clause-served
returns-in-Ok-clause-served c =
    nest_serves c.args.self.now c.requires.inside c.asked_event-event.result c.asked_event-event.ensures c.nest.new.runtime c.wake_waiters.new.self c.place_for-place.new.bus c.push.new.self
    c.if-begins.ensures.some (c.in-Ok.ensures.room.0 refl) c.in-Ok.ensures.ok c.wake_waiters.ensures c.place_for-place.ensures.bus (c.push.ensures ∙ ap (λ (p : PendingDispatch). p ∷ c.args.self.now.places) c.place_for-place.ensures.place)

pub dispatch-requires : goal.dispatch-requires
dispatch-requires c = may_dispatch c.args.self.now.runtime.machine.memory.flash (state_of c.args.self.now) c.requires.shown.world c.requires.shown.shows

pub returns-clause-served : goal.returns-clause-served
returns-clause-served c =
    wake_serves c.args.self.now c.requires.inside c.asked_event-event.result c.asked_event-event.ensures c.wake_waiters-2.new.self c.dispatch.new.self c.if-begins.ensures.some c.wake_waiters-2.ensures c.dispatch.ensures.after
