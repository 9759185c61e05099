-- A listener on the bus: whether it begins an activity for an event, holds the event, or lets it go.
use Rattle.std.specs.Prelude.{ℕ, suc, ◌-◌, Bool, not, ◌&&◌, ◌||◌, if◌then◌else◌, nat_lt, ◌==◌, Option, Some, None, List, [], ◌∷◌, ◌++◌, length}
use Rattle.std.specs.Ordering.{int_eq}
use Rattle.board_world.specs.declared.events.Event.{Event}
use Rattle.board_world.specs.declared.events.Listener.{Listener}
use Rattle.board_world.specs.Limits.{held_limit}
use Rattle.board_world.specs.Rules.{reentrant, drops_if_busy, matches}
use Rattle.board_world.specs.Waiting.{Hearing}

-- a listener with the events that it holds, and how many activities of it are alive
pub record ListenerState : Type 0 where
  pub hearing : Hearing
  pub alive : ℕ

-- as it is registered
abbrev pub fresh : Listener → ListenerState
fresh l = record { hearing = record { listener = l; held = [] }; alive = 0 }

-- whether the event is one that it matches
abbrev pub wants : Event → ListenerState → Bool
wants e l = matches l.hearing.listener.source l.hearing.listener.value e

-- whether it begins a new activity for the event: where it is reentrant, or none of it is alive
abbrev pub begins_new : Event → ListenerState → Bool
begins_new e l = wants e l && (int_eq l.hearing.listener.mode reentrant || l.alive == 0)

-- whether it holds the event instead: where it queues and holds fewer than ten
abbrev pub holds_it : Event → ListenerState → Bool
holds_it e l =
    wants e l && (not (begins_new e l)
    && (not (int_eq l.hearing.listener.mode drops_if_busy) && nat_lt (length l.hearing.held) held_limit))

abbrev pub with_held : List Event → ListenerState → ListenerState
with_held events l = record l { hearing = record l.hearing { held = events } }

-- a listener behind such an event
abbrev pub heard : Event → ListenerState → ListenerState
heard e l =
    if begins_new e l then record l { alive = suc l.alive }
    else if holds_it e l then with_held (l.hearing.held ++ e ∷ []) l
    else l

-- the oldest event of a list
abbrev pub oldest : List Event → Option Event
oldest [] = None
oldest (e ∷ es) = Some e

-- a listener when an activity of it ends: the oldest held event begins it again, or one fewer is alive
abbrev pub ended_with : List Event → ListenerState → ListenerState
ended_with [] l = record l { alive = l.alive - 1 }
ended_with (e ∷ rest) l = with_held rest l

abbrev pub ended : ListenerState → ListenerState
ended l = ended_with l.hearing.held l
