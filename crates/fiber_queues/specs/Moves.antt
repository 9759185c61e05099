-- The lists of a world.
use Rattle.std.specs.Prelude.{true, false, ◌++◌, map}
use Rattle.board_world.specs.declared.events.Event.{Event}
use Rattle.board_world.specs.Waiting.{chosen, left, hears}
use Rattle.board_world.specs.Activities.{Activity, World, woken}
use Rattle.fiber_queues.specs.Lists.{ListsOf}

abbrev pub lists_of : {A S : Type 0} → World A S → ListsOf (Activity A)
lists_of w = record { ready = w.ready; sleepers = w.sleepers; waiters = w.waiters }

-- an activity as it goes to sleep or begins to wait: it has a seat
abbrev pub blocked_as : {A : Type 0} → Activity A → A → Activity A
blocked_as a self = record a { self = self; seated = true; suspended = false }

-- all waiters that hear an event become ready, with its value
abbrev pub woken_by : {A : Type 0} → Event → ListsOf (Activity A) → ListsOf (Activity A)
woken_by e q =
    record q { ready = q.ready ++ map (woken e.value) (chosen (hears e) q.waiters); waiters = left (hears e) q.waiters }
