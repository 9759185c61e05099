use Rattle.std.proofs.Common.{◌≡◌, ap, ◌∙◌, sym, is_some, subst, Some, to_z, of_z, w32, rules, ℕ, ◌++◌, refl, Option}
use Rattle.std.specs.Option.{option_to_list}
use Rattle.slab.specs.Slab.{Updates}
use Rattle.fiber_queues.specs.Lists.{ListsOf}
use Rattle.fiber_queues.proofs.Laws.{stayed}
use Rattle.fiber_runtime.proofs.Waking.{next_waiter, waking_more, waking_done}
use Rattle.fiber_runtime.proofs.wake.wake.Goals as goal

pub set_value-requires : goal.set_value-requires
set_value-requires c =
    let x = next_waiter c.args.event c.args.queues.now c.args.pool.now c.loop-key.queues c.wake_waiter.new.self c.loop-key.pool c.in-Some.key c.requires c.loop-key.invariant c.in-Some.ensures.others in
    ap is_some x.now.1

pub loop-key-preserved : goal.loop-key-preserved
loop-key-preserved c =
    let q = c.loop-key.queues in
    let x = next_waiter c.args.event c.args.queues.now c.args.pool.now q c.wake_waiter.new.self c.loop-key.pool c.in-Some.key c.requires c.loop-key.invariant c.in-Some.ensures.others in
    let z : to_z w32 (of_z w32 c.args.event.value) ≡ c.args.event.value = search rules in
    waking_more c.args.event c.args.queues.now c.args.pool.now q c.wake_waiter.new.self c.loop-key.pool c.set_value.new.self c.in-Some.key c.loop-key.invariant x
    (ap (λ (p : ListsOf ℕ). p.ready) c.in-Some.ensures.woken ∙ ap (λ (o : Option ℕ). q.ready ++ option_to_list o) (sym c.in-Some.ensures.first)) (ap (λ (p : ListsOf ℕ). p.sleepers) c.in-Some.ensures.woken) c.in-Some.ensures.others c.in-Some.ensures.left
    (subst (λ v. Updates c.loop-key.pool c.set_value.new.self c.in-Some.key (Some (record x.now.0 { value = v }))) z (c.set_value.ensures.set x.now.0 x.now.1)) c.set_value.ensures.live

pub returns-clause-lists : goal.returns-clause-lists
returns-clause-lists c =
    let none = c.in_default.ensures.none.0 refl in
    c.in_default.ensures.woken ∙ sym (stayed c.args.event c.loop-key.queues none).woken ∙ waking_done c.args.event c.args.queues.now c.args.pool.now c.loop-key.queues c.loop-key.pool c.loop-key.invariant none
