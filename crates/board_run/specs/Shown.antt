-- What a board shows: dispatch places, which are an event and the listeners whose handlers haven't begun, and activities.
use Rattle.std.specs.Prelude.{◌≡◌, ℕ, ◌-◌, pos, List, [], ◌∷◌, Bool, true, false, ◌++◌, map, Option, Some, None, is_some, ◌+◌}
use Rattle.board_world.specs.declared.events.Event.{Event}
use Rattle.message_bus.specs.ListenerState.{ListenerState}
use Rattle.message_bus.specs.Numbers.{numbers, beginning, IsRising}
use Rattle.fiber_runtime.specs.declared.turning.Raiser.{Raiser}
use Rattle.slab.specs.Slab.{Slab}
use Rattle.thumb_code.specs.Machine.{State as Machine, base_of}
use Rattle.board_world.specs.Waiting.{Hearing, handler_of, how_many}
use Rattle.board_world.specs.Activities.{Activity, World}
use Rattle.bank_model.specs.Fibers.{Fiber, begins_on}
use Rattle.bank_model.specs.Standing.{fiber_on}
use Rattle.message_bus.specs.Agreement.{handler_activity}
use Rattle.fiber_pool.specs.Kept.{Kept, kept_at}
use Rattle.fiber_runtime.specs.declared.turning.Turning.{Turning}
use Rattle.fiber_runtime.specs.State.{fiber_raising, fiber_kept}

pub record PendingDispatch : Type 0 where
  pub event : Event
  pub left : List ℕ  -- the numbers of these listeners, ascending

-- One place for each raiser, the innermost first, and one behind them; so many listeners stand.
abbrev pub ArePlaces : ℕ → List Raiser → List PendingDispatch → Type 0
ArePlaces n [] (p ∷ []) = IsRising 0 p.left n
ArePlaces n (r ∷ rs) (p ∷ ps) = IsRising 0 p.left n × ArePlaces n rs ps
ArePlaces n _ _ = ⊥

-- the places as a run begins: one, at which no handler is left
abbrev pub at_first : List PendingDispatch
at_first = record { event = record { source = pos 0; value = pos 0 }; left = [] } ∷ []

-- the dispatch place of an event
abbrev pub place_for : Event → List ListenerState → PendingDispatch
place_for e ls = record { event = e; left = beginning e 0 ls }

-- the numbers that are left of a set of 32 bits, of which those below a number are gone
abbrev pub left_of : ℕ → ℕ → List ℕ
left_of next bits = numbers (32 - next) next bits

-- The first handler of the innermost place is taken.
pub record Takes (event : Event) (at : ℕ) (old new : List PendingDispatch) : Type 0 where
  pub rest : List ℕ
  pub outer : List PendingDispatch
  pub was : old ≡ record { event = event; left = at ∷ rest } ∷ outer
  pub now : new ≡ record { event = event; left = rest } ∷ outer

-- No handler is left at the innermost place.
abbrev pub IsSpent : List PendingDispatch → Type 0
IsSpent [] = ⊥
IsSpent (p ∷ ps) = p.left ≡ []

-- Who runs or is suspended: it has a seat where it has a record.
abbrev pub acting : Fiber → Turning → Bool → Activity Fiber
acting f t mark = record { self = f; value = t.value; listener = t.listener; seated = is_some t.key; suspended = mark }

-- the running fiber's words are those of the stack region from SP to the base
abbrev pub running_of : Option Turning → Machine → Bool → List (Activity Fiber)
running_of None m mark = []
running_of (Some t) m mark = acting (fiber_on m) t mark ∷ []

abbrev pub of_raiser : List ℕ → Raiser → Activity Fiber
of_raiser stack r = acting (fiber_raising stack r) r.turning true

-- who stands in a record
abbrev pub of_kept : Kept → Activity Fiber
of_kept k = record { self = fiber_kept k; value = k.value; listener = k.listener; seated = true; suspended = false }

abbrev pub of_key : Slab Kept → ℕ → Activity Fiber
of_key pool key = of_kept (kept_at pool key)

-- A handler that hasn't begun: the world has its fiber since the dispatch, the board has its listener's number.
abbrev pub begun_as : List ℕ → ℕ → Event → List Hearing → ℕ → Activity Fiber
begun_as image base e hs i = handler_activity (begins_on image base (handler_of i hs)) e i

abbrev pub unbegun : List ℕ → ℕ → List Hearing → PendingDispatch → List (Activity Fiber)
unbegun image base hs p = map (begun_as image base p.event hs) p.left

-- From the innermost place outward its handlers, on its raiser's SP, and then its raiser. The outermost place has no raiser, and its
-- handlers stand on word 0 of flash.
abbrev pub standing : List ℕ → List Hearing → List ℕ → List Raiser → List PendingDispatch → List (Activity Fiber)
standing image hs stack rs [] = []
standing image hs stack [] (p ∷ ps) = unbegun image (base_of image) hs p
standing image hs stack (r ∷ rs) (p ∷ ps) =
    unbegun image r.registers.sp hs p ++ (of_raiser stack r ∷ standing image hs stack rs ps)

-- what is kept of a handler that begins
abbrev pub handler_turning : Event → ℕ → Turning
handler_turning e i = record { key = None; value = e.value; listener = Some i }

-- how many activities a world has whose own state passes a test, and whichever of its ready ones are meant
abbrev pub standing_in : {A S : Type 0} → (A → Bool) → List (Activity A) → World A S → ℕ
standing_in test ready w =
    how_many (λ a. test a.self) ready
    + how_many (λ x. test x.1.self) w.sleepers + how_many (λ x. test x.1.self) w.waiters
