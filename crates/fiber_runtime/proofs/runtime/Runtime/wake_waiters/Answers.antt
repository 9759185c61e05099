use Rattle.std.proofs.Common.{ap}
use Rattle.fiber_runtime.specs.State.{State}
use Rattle.fiber_runtime.proofs.Sound.{sound_woken, live_waiter}
use Rattle.fiber_runtime.proofs.runtime.Runtime.wake_waiters.Goals as goal

pub wake-requires : goal.wake-requires
wake-requires c = λ key n.
    let s : State = record { machine = c.self.inside.machine; running = c.self.inside.running; raisers = c.self.inside.raisers; pool = c.self.inside.pool; lists = c.self.inside.queues } in
    live_waiter c.args.event s key c.self.invariant n

pub invariant_of-self : goal.invariant_of-self
invariant_of-self c =
    let s : State = record { machine = c.self.inside.machine; running = c.self.inside.running; raisers = c.self.inside.raisers; pool = c.self.inside.pool; lists = c.self.inside.queues } in
    let n : State = record { machine = c.self.inside.machine; running = c.self.inside.running; raisers = c.self.inside.raisers; pool = c.wake.new.pool; lists = c.wake.new.queues } in
    sound_woken c.args.event s n c.self.invariant (record { changed = c.wake.ensures.changed; others = c.wake.ensures.others; live = c.wake.ensures.live; rest = ap (λ q. record n { lists = q }) c.wake.ensures.lists })
