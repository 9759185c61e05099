use Rattle.std.proofs.Common.{subst, ap, Some, ◌∙◌}
use Rattle.thumb_code.specs.Machine.{State as Machine}
use Rattle.fiber_runtime.specs.State.{State}
use Rattle.fiber_runtime.specs.Moves.{Reinstated}
use Rattle.fiber_runtime.proofs.runtime.Runtime.reinstate.Goals as goal

pub returns-in-Some-clause-done : goal.returns-in-Some-clause-done
returns-in-Some-clause-done c =
    let i = c.self.inside in
    let s : State = record { machine = i.machine; running = i.running; raisers = i.raisers; pool = i.pool; lists = i.queues } in
    let r = c.in-Some.raiser in
    let machine = c.set_base.ensures ∙ ap (λ (v : Machine). record v { memory = record v.memory { base = r.base } }) c.set_registers.ensures in
    subst (λ (q : State). Reinstated q (record { machine = c.set_base.new.self; running = Some r.turning; raisers = c.pop.new.self; pool = i.pool; lists = i.queues })) c.self.view_is
    (record { first = r; others = c.pop.new.self; was = c.in-Some.ensures.taken; rest = ap (λ (m : Machine). record s { machine = m; running = Some r.turning; raisers = c.pop.new.self }) machine })
