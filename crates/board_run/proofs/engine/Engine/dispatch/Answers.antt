use Rattle.std.proofs.Common.{◌<◌, List, All, ap, subst}
use Rattle.message_bus.specs.BusState.{BusState}
use Rattle.message_bus.specs.ListenerState.{ListenerState}
use Rattle.board_run.specs.Represents.{state_of}
use Rattle.board_run.proofs.Few.{may_dispatch}
use Rattle.board_run.proofs.Dispatching.{dispatch_comes, dispatch_fewer}
use Rattle.board_run.proofs.engine.Engine.dispatch.Goals as goal

pub place_for-place-requires : goal.place_for-place-requires
place_for-place-requires c = subst (λ (ls : List ListenerState). All (λ l. l.alive < 1000) ls) (ap (λ (x : BusState). x.listeners) c.in-Some.ensures.taken) (may_dispatch c.args.self.now.runtime.machine.memory.flash (state_of c.args.self.now) c.requires.shown.world c.requires.shown.shows)

pub returns-in-Some-clause-comes : goal.returns-in-Some-clause-comes
returns-in-Some-clause-comes c =
    dispatch_comes c.args.self.now c.requires.empty c.in-Some.event c.next.new.self c.place_for-place.new.bus c.in-Some.ensures.taken c.place_for-place.ensures.bus c.wake_waiters.new.self c.wake_waiters.ensures
    c.place_for-place.result c.place_for-place.ensures.place c.renew.new.self c.renew.ensures c.requires.going

pub returns-in-Some-clause-fewer : goal.returns-in-Some-clause-fewer
returns-in-Some-clause-fewer c =
    dispatch_fewer c.args.self.now c.requires.empty c.in-Some.event c.next.new.self c.place_for-place.new.bus c.in-Some.ensures.taken c.place_for-place.ensures.bus c.wake_waiters.new.self c.wake_waiters.ensures
    c.place_for-place.result c.place_for-place.ensures.place c.renew.new.self c.renew.ensures
