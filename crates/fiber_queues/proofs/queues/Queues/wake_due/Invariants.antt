use Rattle.std.proofs.Common.{◌≡◌, ◌+◌, ◌++◌, nat_le, vec_len, vec_capacity}
use Rattle.board_world.specs.Waiting.{chosen, left}
use Rattle.fiber_queues.specs.Lists.{HasRoom}
use Rattle.fiber_queues.proofs.queues.Queues.wake_due.Given as goal

-- those who became ready and those who are still due are those who were due
abbrev pub invariant-loop-at : goal.invariant-loop-at
invariant-loop-at l =
    (l.self-inside.waiters.items ≡ l.fn.self.waiters)
    × (HasRoom (vec_capacity l.self-inside.ready) (vec_capacity l.self-inside.sleepers) (vec_capacity l.self-inside.waiters) (vec_len l.self-inside.ready + vec_len l.self-inside.sleepers + vec_len l.self-inside.waiters))
    × (l.self-inside.ready.items ++ chosen (λ wake. nat_le wake l.now) l.self-inside.sleepers.items ≡ l.fn.self.ready ++ chosen (λ wake. nat_le wake l.now) l.fn.self.sleepers)
    × (left (λ wake. nat_le wake l.now) l.self-inside.sleepers.items ≡ left (λ wake. nat_le wake l.now) l.fn.self.sleepers)

abbrev pub decreases-loop-at : goal.decreases-loop-at
decreases-loop-at l = vec_len l.self-inside.sleepers
