-- The calls that change the lists, and what they do, for whatever stands in the lists.
use Rattle.std.specs.Prelude.{ℕ, zero, suc, nat_le, List, [], ◌∷◌, ◌++◌, drop, map}
use Rattle.std.specs.Option.{option_to_list}
use Rattle.board_world.specs.declared.events.Event.{Event}
use Rattle.board_world.specs.Waiting.{chosen, left, hears}
use Rattle.fiber_queues.specs.Lists.{ListsOf, first_chosen, without_first}

pub data Call (Y : Type 0) : Type 0 where
  Ready : (who : Y) → Call Y
  Sleep : (who : Y) (wake : ℕ) → Call Y
  Wait : (who : Y) (event : Event) → Call Y
  Next : Call Y
  WakeDue : (now : ℕ) → Call Y
  WakeWaiter : (event : Event) → Call Y

module _ {Y : Type 0} where
  -- the sleepers that are due become ready, in the order in which they went to sleep
  abbrev pub due_woken : ℕ → ListsOf Y → ListsOf Y
  due_woken now q =
      record q {
        ready = q.ready ++ chosen (λ wake. nat_le wake now) q.sleepers;
        sleepers = left (λ wake. nat_le wake now) q.sleepers;
      }

  -- the first waiter that hears the event becomes the last ready one
  abbrev pub waiter_woken : Event → ListsOf Y → ListsOf Y
  waiter_woken event q =
      record q {
        ready = q.ready ++ option_to_list (first_chosen (hears event) q.waiters);
        waiters = without_first (hears event) q.waiters;
      }

  -- all waiters that hear the event become ready, in the order in which they began to wait
  abbrev pub all_woken : Event → ListsOf Y → ListsOf Y
  all_woken event q =
      record q { ready = q.ready ++ chosen (hears event) q.waiters; waiters = left (hears event) q.waiters }

  abbrev pub called : Call Y → ListsOf Y → ListsOf Y
  called (Ready who) q = record q { ready = q.ready ++ who ∷ [] }
  called (Sleep who wake) q = record q { sleepers = q.sleepers ++ (wake, who) ∷ [] }
  called (Wait who event) q = record q { waiters = q.waiters ++ (event, who) ∷ [] }
  called Next q = record q { ready = drop 1 q.ready }
  called (WakeDue now) q = due_woken now q
  called (WakeWaiter event) q = waiter_woken event q

  -- the lists after a list of calls
  abbrev pub after : List (Call Y) → ListsOf Y → ListsOf Y
  after [] q = q
  after (c ∷ cs) q = after cs (called c q)

  -- a call as often as that
  abbrev pub times : ℕ → Call Y → List (Call Y)
  times zero c = []
  times (suc n) c = c ∷ times n c

-- the same lists and calls, with what each key stands for
module _ {X Y : Type 0} (f : X → Y) where
  abbrev pub keyed : {Z : Type 0} → List (Z × X) → List (Z × Y)
  keyed ps = map (λ p. (p.0, f p.1)) ps

  abbrev pub meant : ListsOf X → ListsOf Y
  meant q = record { ready = map f q.ready; sleepers = keyed q.sleepers; waiters = keyed q.waiters }

  abbrev pub meant_call : Call X → Call Y
  meant_call (Ready who) = Ready (f who)
  meant_call (Sleep who wake) = Sleep (f who) wake
  meant_call (Wait who event) = Wait (f who) event
  meant_call Next = Next
  meant_call (WakeDue now) = WakeDue now
  meant_call (WakeWaiter event) = WakeWaiter event
