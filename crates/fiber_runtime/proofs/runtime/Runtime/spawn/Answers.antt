use Rattle.std.proofs.Common.{refl, subst, ap, ◌∙◌, Some}
use Rattle.slab.specs.Slab.{Updates}
use Rattle.fiber_pool.specs.Kept.{unused}
use Rattle.fiber_runtime.specs.State.{State}
use Rattle.fiber_runtime.specs.Moves.{Spawned, fresh}
use Rattle.fiber_runtime.proofs.Sound.{sound_spawned, updates_twice}
use Rattle.fiber_runtime.proofs.runtime.Runtime.spawn.Goals as goal

pub invariant_of-self-in-Some : goal.invariant_of-self-in-Some
invariant_of-self-in-Some c =
    let i = c.self.inside in
    let flash = i.machine.memory.flash in
    let base = c.first_base-base.result in
    let s : State = record { machine = i.machine; running = i.running; raisers = i.raisers; pool = i.pool; lists = i.queues } in
    let n : State = record { machine = i.machine; running = i.running; raisers = i.raisers; pool = c.save.new.self; lists = c.ready.new.self } in
    let w = updates_twice i.pool c.claim.new.self c.save.new.self c.in-Some.key _ _ c.in-Some.ensures.claimed (c.save.ensures.saved unused c.in-Some.ensures.claimed.changed) in
    let m : Spawned c.args.entry base s n = record {
      key = c.in-Some.key;
      claims = record { free = c.in-Some.ensures.free; updates = subst (λ r. Updates i.pool c.save.new.self c.in-Some.key (Some (record (fresh flash base c.args.entry) { registers = r }))) c.begun-registers.ensures w; live = c.save.ensures.live ∙ c.in-Some.ensures.live; room = c.in-Some.ensures.room.0 refl };
      rest = ap (λ q. record n { lists = q }) c.ready.ensures;
    } in
    sound_spawned c.args.entry base s n c.self.invariant m
