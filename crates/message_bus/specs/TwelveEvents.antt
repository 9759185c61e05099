-- Worked rows: a listener behind twelve events of one source, by its mode.
use Rattle.std.specs.Prelude.{ℕ, zero, suc, ◌+◌, ℤ, pos, List, [], ◌∷◌}
use Rattle.board_world.specs.declared.events.Event.{Event}
use Rattle.board_world.specs.declared.events.Listener.{Listener}
use Rattle.message_bus.specs.ListenerState.{ListenerState, fresh, heard}

abbrev pub event : ℕ → Event
event n = record { source = pos 50; value = pos n }

-- so many events, from this value on
abbrev pub events : ℕ → ℕ → List Event
events zero from = []
events (suc n) from = event from ∷ events n (from + 1)

-- it hears every event of the source
abbrev pub listener : ℤ → Listener
listener mode = record { source = pos 50; value = pos 0; handler = 7; mode = mode }

abbrev pub behind : List Event → ListenerState → ListenerState
behind [] l = l
behind (e ∷ es) l = behind es (heard e l)

-- twelve events came, of values 1 to 12
abbrev pub after_twelve : ℤ → ListenerState
after_twelve mode = behind (events 12 1) (fresh (listener mode))

-- a listener of which so many activities are alive, and which holds these events
abbrev pub busy_with : ℤ → ℕ → List Event → ListenerState
busy_with mode alive held = record { hearing = record { listener = listener mode; held = held }; alive = alive }
