-- Runs that stop before a moment, and scripts with more entries behind.
use Rattle.std.specs.Prelude.{ℕ, zero, suc, ◌≤◌, Bool, true, false, not, ◌&&◌, if◌then◌else◌, nat_lt, List, [], ◌∷◌, ◌++◌, Option, Some, All}
use Rattle.board_world.specs.declared.events.Event.{Event}
use Rattle.board_world.specs.declared.clock.Idle.{Idle}
use Rattle.board_world.specs.declared.clock.Idle.TheVariants.{Jump}
use Rattle.board_world.specs.Observations.{End, Quietly, By_script}
use Rattle.board_world.specs.Rules.{clock_move}
use Rattle.board_world.specs.Board.{Board, Entry, over, next_entry}
use Rattle.board_world.specs.Waiting.{least}
use Rattle.board_world.specs.Kinds.{Kind}
use Rattle.board_world.specs.Activities.{Activity, World}
use Rattle.board_world.specs.World.{idle_bound, acted, moved}

-- no entry is before the moment
abbrev pub IsFrom : ℕ → List Entry → Type 0
IsFrom t es = All (λ e. t ≤ e.at) es

-- the entries stand in order, from the moment on
abbrev pub IsRisingFrom : ℕ → List Entry → Type 0
IsRisingFrom t [] = Unit {0}
IsRisingFrom t (e ∷ es) = (t ≤ e.at) × IsRisingFrom e.at es

-- the same with these entries behind the rest of the script
abbrev pub board_then : List Entry → Board → Board
board_then later b = record b { script = b.script ++ later }

abbrev pub then_later : {A S : Type 0} → List Entry → World A S → World A S
then_later later w = record w { board = board_then later w.board }

-- whether the clock ended the run: nothing was left to come before the script's end, or at all
abbrev pub is_by_clock : Option End → Bool
is_by_clock (Some Quietly) = true
is_by_clock (Some By_script) = true
is_by_clock _ = false

-- whether the clock goes to a moment before t
abbrev pub is_jump_before : ℕ → Idle → Bool
is_jump_before t (Jump s) = nat_lt s t
is_jump_before t _ = false

-- whether the next idle move comes before t: an event is queued, or the clock goes to a moment before t
abbrev pub moves_before : {A S : Type 0} → ℕ → List Event → World A S → Bool
moves_before t (e ∷ rest) w = true
moves_before t [] w = is_jump_before t (clock_move (least w.sleepers) (next_entry w.board.script) w.board.until)

module _ {A S : Type 0} (K : Kind A S) (t : ℕ) where
  -- idle moves before t while no activity is ready, at most n
  abbrev pub idle_before : ℕ → List (Activity A) → World A S → World A S
  idle_before (suc n) [] w =
      if not (over w.board) && moves_before t w.board.queue w
      then (let v = moved K w.board.queue w in idle_before n v.ready v) else w
  idle_before _ _ w = w

  -- all that are due
  abbrev pub idled_before : World A S → World A S
  idled_before w = idle_before (idle_bound w.board) w.ready w

  -- the first ready activity makes its step, and idle moves before t follow
  abbrev pub stepped_before : List (Activity A) → World A S → World A S
  stepped_before [] w = w
  stepped_before (a ∷ rest) w = idled_before (acted K a rest w (K.step a.self w.shared))

  -- a counted step, where somebody is ready before t
  abbrev pub tick_before : World A S → World A S
  tick_before w = if over w.board then w else stepped_before w.ready w

  -- the world after n counted steps, stopped where nothing is left to do before t
  abbrev pub run_before : ℕ → World A S → World A S
  run_before zero w = w
  run_before (suc n) w = tick_before (run_before n w)
