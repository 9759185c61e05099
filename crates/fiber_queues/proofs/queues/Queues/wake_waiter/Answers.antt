use Rattle.std.proofs.Common.{◌∙◌, sym, ap, subst, refl, ℕ}
use Rattle.board_world.specs.Waiting.{hears, chosen}
use Rattle.fiber_queues.specs.Lists.{ListsOf}
use Rattle.fiber_queues.proofs.Calls.{Taken, taken, Stayed, stayed}
use Rattle.fiber_queues.proofs.queues.Queues.wake_waiter.Goals as goal
use Rattle.fiber_queues.proofs.queues.Queues.wake_waiter.Goals.{After-append, In-None}

nobody : (c : In-None) → Stayed c.args.event c.args.self.now
nobody c =
    stayed c.args.event c.args.self.now
    (ap (λ q. chosen (hears c.args.event) q.waiters) (sym c.self.view_is) ∙ ap (chosen (hears c.args.event)) (sym c.as_slice.ensures.value) ∙ c.in-None.ensures.none)

pub returns-in-None-clause-first : goal.returns-in-None-clause-first
returns-in-None-clause-first c = (nobody c).first

pub returns-in-None-clause-woken : goal.returns-in-None-clause-woken
returns-in-None-clause-woken c = (nobody c).woken

somebody : (c : After-append) → Taken c.args.event c.args.self.now (record { ready = c.append.new.list.items; sleepers = c.self.inside.sleepers.items; waiters = c.remove-key.new.self.items }) c.remove-key.result.1
somebody c =
    let new : ListsOf ℕ = record { ready = c.append.new.list.items; sleepers = c.self.inside.sleepers.items; waiters = c.remove-key.new.self.items } in
    let old : ListsOf ℕ = record { ready = c.self.inside.ready.items; sleepers = c.self.inside.sleepers.items; waiters = c.self.inside.waiters.items } in
    subst (λ (q : ListsOf ℕ). Taken c.args.event q new c.remove-key.result.1) c.self.view_is
    (taken c.args.event old new _ c.in-Some.at c.remove-key.result c.in-Some.ensures.some c.as_slice.ensures.value c.remove-key.ensures.by_index.2 c.remove-key.ensures.value c.append.ensures.items refl)

pub returns-in-Some-clause-first : goal.returns-in-Some-clause-first
returns-in-Some-clause-first c = (somebody c).first

pub returns-in-Some-clause-none : goal.returns-in-Some-clause-none
returns-in-Some-clause-none c = (somebody c).none

pub returns-in-Some-clause-woken : goal.returns-in-Some-clause-woken
returns-in-Some-clause-woken c = (somebody c).woken

pub returns-in-Some-clause-others : goal.returns-in-Some-clause-others
returns-in-Some-clause-others c = (somebody c).others

pub returns-in-Some-clause-left : goal.returns-in-Some-clause-left
returns-in-Some-clause-left c = (somebody c).left_as_before
