-- When a bus agrees with a world: the same listeners, held events and queue, and as many activities alive.
use Rattle.std.specs.Prelude.{ℕ, suc, ◌+◌, ◌≡◌, if◌then◌else◌, Some, false, List, [], ◌∷◌, map}
use Rattle.board_world.specs.declared.events.Event.{Event}
use Rattle.board_world.specs.Waiting.{Hearing, how_many}
use Rattle.board_world.specs.Activities.{Activity, World, is_of}
use Rattle.board_world.specs.Kinds.{Question, Raises}
use Rattle.message_bus.specs.ListenerState.{ListenerState, begins_new}
use Rattle.message_bus.specs.BusState.{BusState, queued, alive_at}

abbrev pub hearings : List ListenerState → List Hearing
hearings ls = map (λ l. l.hearing) ls

module _ {A S : Type 0} where
  -- how many activities of listener i are alive
  abbrev pub living : ℕ → World A S → ℕ
  living i w =
      how_many (is_of i) w.ready + (how_many (λ p. is_of i p.1) w.sleepers + how_many (λ p. is_of i p.1) w.waiters)

  pub record Agrees (b : BusState) (w : World A S) : Type 0 where
    pub listeners : w.listeners ≡ hearings b.listeners
    pub queue : w.board.queue ≡ b.queue
    pub alive : (i : ℕ) → living i w ≡ alive_at i b.listeners

-- an activity of listener i, as it begins
abbrev pub handler_activity : {A : Type 0} → A → Event → ℕ → Activity A
handler_activity self e i =
    record { self = self; value = e.value; listener = Some i; seated = false; suspended = false }

-- the new activities for an event, one for each listener whose bit is set; i is the first one's number
abbrev pub begun : {A : Type 0} → (ℕ → A) → Event → ℕ → List ListenerState → List (Activity A)
begun make e i [] = []
begun make e i (l ∷ ls) =
    if begins_new e l
    then handler_activity (make l.hearing.listener.handler) e i ∷ begun make e (suc i) ls
    else begun make e (suc i) ls

-- the queue behind what an activity asks of the board: an event may be raised
abbrev pub asked_queue : Question → List Event → List Event
asked_queue (Raises e) q = queued e q
asked_queue _ q = q
