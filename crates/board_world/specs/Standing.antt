-- A panic leaves the world as it was, so who panicked is the first ready activity still; in runs that do the same the
-- two that panicked are at places that belong together.
use Rattle.std.specs.Prelude.{◌≡◌, ℕ, false, Some, List}
use Rattle.board_world.specs.Observations.{Panicked}
use Rattle.board_world.specs.Board.{Entry, over}
use Rattle.board_world.specs.Kinds.{Kind}
use Rattle.board_world.specs.Activities.{World}
use Rattle.board_world.specs.World.{start, tick}
use Rattle.board_world.specs.Runs.{Arrival, Rises, Keeps, run_with}
use Rattle.board_world.specs.Panicking.{MayPanic, HasPanicked, FirstIs, FirstsAre}

-- the run goes on before a step of the first ready activity, and ends by a panic in it; nothing but the end is new
pub record PanicsIn {A S : Type 0} (K : Kind A S) (before after : World A S) : Type 0 where
  pub going : over before.board ≡ false
  pub first : FirstIs (λ a. MayPanic (K.step a before.shared)) before.ready
  pub step : after ≡ tick K before
  pub code : ℕ
  pub stands : after ≡ record before { board = record before.board { end = Some (Panicked code) } }

-- the worlds of all runs of a kind that begin at main over this shared state, as `boards_from` has their boards
abbrev pub worlds_from : {A S : Type 0} → Kind A S → (main : ℕ) → (shared : S) → ℕ → List Entry → List Arrival → ℕ
    → World A S
worlds_from K main shared until script arrivals n = run_with K arrivals n (start K main shared until script)

-- Where a run below has ended by a panic, on each script and whatever arrives, the source's run that it keeps has ended
-- by it too, and the two that panicked are at places that belong together.
abbrev pub PanicsTogether : {A S C D : Type 0} → (bound : ℕ) → (Placed : A → C → Type 0)
    → (source : (until : ℕ) → List Entry → List Arrival → (steps : ℕ) → World A S)
    → (below : (until : ℕ) → List Entry → List Arrival → (steps : ℕ) → World C D) → Type 0
PanicsTogether bound Placed source below =
    (until : ℕ) (script : List Entry) (arrivals : List Arrival) → Rises 0 arrivals → (m : ℕ)
    → HasPanicked (below until script arrivals m).board.end
    → (kept : Keeps bound (λ places k. (source until script places k).board)
    (λ places k. (below until script places k).board) arrivals m)
    × FirstsAre Placed (source until script kept.places kept.steps).ready (below until script arrivals m).ready
