-- The listeners of a bus, in the order of registration, and the events that wait to be dispatched.
use Rattle.std.specs.Prelude.{ℕ, zero, suc, ◌+◌, ◌*◌, if◌then◌else◌, nat_lt, List, [], ◌∷◌, ◌++◌, length}
use Rattle.board_world.specs.declared.events.Event.{Event}
use Rattle.board_world.specs.Limits.{queue_limit}
use Rattle.message_bus.specs.ListenerState.{ListenerState, begins_new}

pub record BusState : Type 0 where
  pub listeners : List ListenerState
  pub queue : List Event  -- the oldest first

-- the queue holds 32; at a full queue the event is dropped
abbrev pub queued : Event → List Event → List Event
queued e q = if nat_lt (length q) queue_limit then q ++ e ∷ [] else q

-- bit i is set where listener i begins a new activity for the event
abbrev pub begun_bits : Event → List ListenerState → ℕ
begun_bits e [] = 0
begun_bits e (l ∷ ls) = (if begins_new e l then 1 else 0) + 2 * begun_bits e ls

-- a fact about listener i, where it stands
abbrev pub AtListener : (ListenerState → Type 0) → ℕ → List ListenerState → Type 0
AtListener P i [] = ⊥
AtListener P zero (l ∷ ls) = P l
AtListener P (suc i) (l ∷ ls) = AtListener P i ls

-- the listeners where listener i is changed
abbrev pub changed : (ListenerState → ListenerState) → ℕ → List ListenerState → List ListenerState
changed f i [] = []
changed f zero (l ∷ ls) = f l ∷ ls
changed f (suc i) (l ∷ ls) = l ∷ changed f i ls

-- the events that listener i holds, and how many activities of it are alive; none where it doesn't stand
abbrev pub held_at : ℕ → List ListenerState → List Event
held_at i [] = []
held_at zero (l ∷ ls) = l.hearing.held
held_at (suc i) (l ∷ ls) = held_at i ls

abbrev pub alive_at : ℕ → List ListenerState → ℕ
alive_at i [] = 0
alive_at zero (l ∷ ls) = l.alive
alive_at (suc i) (l ∷ ls) = alive_at i ls
