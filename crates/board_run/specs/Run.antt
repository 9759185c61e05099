-- A board in the course of a run.
use Rattle.std.specs.Prelude.{◌≡◌, ℕ, ◌+◌, ◌<◌, ◌≤◌, List, ◌++◌, Option, Some, None}
use Rattle.board_world.specs.Activities.{World}
use Rattle.board_world.specs.Kinds.{Kind}
use Rattle.board_world.specs.World.{idled}
use Rattle.board_world.specs.Runs.{run}
use Rattle.board_world.specs.Before.{idled_before, run_before}
use Rattle.bank_model.specs.Fibers.{Fiber, Shared}
use Rattle.bank_model.specs.BoardMachine.{fibers}
use Rattle.board_outside.specs.Moves.{Move, HasMet}
use Rattle.board_run.specs.Represents.{BoardState, Represents}

-- all idle moves, or those before a moment; and steps with these behind them
abbrev pub idled_to : {A S : Type 0} → Kind A S → Option ℕ → World A S → World A S
idled_to K None w = idled K w
idled_to K (Some t) w = idled_before K t w

abbrev pub run_to : {A S : Type 0} → Kind A S → Option ℕ → ℕ → World A S → World A S
run_to K None n w = run K n w
run_to K (Some t) n w = run_before K t n w

-- After n instructions from a start, whose own idle moves come first, with these free words used and whatever follows them, the board shows
-- a world whose idle moves lead to the run's. What was met doesn't hang on the words that follow. A fault leaves the world as it was, also
-- the free words.
pub record Reaches (bound : Option ℕ) (image : List ℕ) (start : List ℕ → World Fiber Shared) (n : ℕ) (used : List ℕ)
    (moves : List Move) (b : BoardState) : Type 0 where
  pub at : List ℕ → World Fiber Shared
  pub shows : (rest : List ℕ) → Represents image b (at rest)
  pub free : b.plain.end ≡ None → (rest : List ℕ) → (at rest).shared.free ≡ rest
  pub met : (rest : List ℕ) → HasMet moves (at rest).board
  pub settles : (rest : List ℕ) → idled_to (fibers image) bound (at rest)
      ≡ run_to (fibers image) bound n (idled_to (fibers image) bound (start (used ++ rest)))

-- The board comes as far in the new state as in the old one, or so many instructions further, which meet these moves. The number of
-- instructions so far and the start are any, so one call may begin where another ended.
abbrev pub ComesTo : Option ℕ → List ℕ → ℕ → List Move → BoardState → BoardState → Type 0
ComesTo bound image more moves old new =
    (start : List ℕ → World Fiber Shared) (n : ℕ) (used : List ℕ) (met : List Move)
    → Reaches bound image start n used met old
    → (further : List ℕ) × Reaches bound image start (more + n) (used ++ further) (met ++ moves) new

-- The same whatever moment the run stops before, if any: no idle move of the clock is made.
abbrev pub Comes : List ℕ → ℕ → List Move → BoardState → BoardState → Type 0
Comes image more moves old new = (bound : Option ℕ) → ComesTo bound image more moves old new

-- The board comes so many instructions further, which meet these moves, and the run's world before each of them is such.
abbrev pub ComesThrough : (World Fiber Shared → Type 0) → Option ℕ → List ℕ → ℕ → List Move → BoardState
    → BoardState → Type 0
ComesThrough such bound image more moves old new =
    (start : List ℕ → World Fiber Shared) (n : ℕ) (used : List ℕ) (met : List Move)
    → Reaches bound image start n used met old
    → (further : List ℕ) × Reaches bound image start (more + n) (used ++ further) (met ++ moves) new
    × ((rest : List ℕ) (j : ℕ) → n ≤ j → j < more + n
    → such (run_to (fibers image) bound j (idled_to (fibers image) bound (start ((used ++ further) ++ rest)))))
