-- The buttons: since when each is down, and the events that it raises.
use Rattle.std.specs.Prelude.{◌≡◌, ℕ, ◌-◌, ℤ, pos, negsuc, Bool, false, if◌then◌else◌, nat_lt, ◌==◌, Option, Some, None, is_some, List}
use Rattle.board_world.specs.declared.events.Event.{Event}
use Rattle.board_world.specs.Limits.{click_limit}
use Rattle.board_world.specs.Board.{Board, event}
use Rattle.message_bus.specs.BusState.{BusState, queued}

pub record Since : Type 0 where
  pub a_since : Option ℕ  -- where button A is down, since when
  pub b_since : Option ℕ

abbrev pub all_up : Since
all_up = record { a_since = None; b_since = None }

-- where this button is down, since when: A is 1 and B is 2
abbrev pub since_of : ℕ → Since → Option ℕ
since_of button s = if button == 1 then s.a_since else s.b_since

abbrev pub with_since : ℕ → Option ℕ → Since → Since
with_since button since s = if button == 1 then record s { a_since = since } else record s { b_since = since }

-- the queue after a button is pressed: value 1 is raised where it was up
abbrev pub queue_down : ℕ → Option ℕ → List Event → List Event
queue_down button None q = queued (event button 1) q
queue_down button (Some since) q = q

-- and after it is let go: 2, then 3 for a click, and 4 for a long one
abbrev pub queue_up : ℕ → ℕ → Option ℕ → List Event → List Event
queue_up now button None q = q
queue_up now button (Some since) q =
    queued (event button (if nat_lt (now - since) click_limit then 3 else 4)) (queued (event button 2) q)

-- whether a button is down; there are 1 and 2
abbrev pub is_down_at : ℤ → Since → Bool
is_down_at (negsuc n) s = false
is_down_at (pos n) s = if n == 1 then is_some s.a_since else if n == 2 then is_some s.b_since else false

-- the board has at this moment these buttons, and the queue of this bus
pub record HasButtons (now : ℕ) (s : Since) (bus : BusState) (b : Board) : Type 0 where
  pub moment : b.clock ≡ now
  pub button_a : b.a_since ≡ s.a_since
  pub button_b : b.b_since ≡ s.b_since
  pub events : b.queue ≡ bus.queue
