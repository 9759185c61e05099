use Rattle.std.proofs.Common.{None, ap}
use Rattle.fiber_runtime.specs.State.{State}
use Rattle.fiber_runtime.proofs.Sound.{sound_blocked}
use Rattle.fiber_runtime.proofs.runtime.Runtime.block.Goals as goal

pub invariant_of-self : goal.invariant_of-self
invariant_of-self c =
    let i = c.self.inside in
    let s : State = record { machine = i.machine; running = i.running; raisers = i.raisers; pool = i.pool; lists = i.queues } in
    let n : State = record { machine = i.machine; running = None; raisers = i.raisers; pool = c.copy_out.new.pool; lists = c.join.new.queues } in
    sound_blocked c.in-Some-key.key c.args.now c.in-Some.turning c.args.why s n c.self.invariant c.in-Some.is c.in-Some-key.is c.copy_out.ensures.fits
    (record { updates = c.copy_out.ensures.updates; live = c.copy_out.ensures.live; rest = ap (λ q. record n { lists = q }) c.join.ensures })
