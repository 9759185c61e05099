-- A board in the course of a run with arrivals.
use Rattle.std.specs.Prelude.{◌≡◌, ℕ, ◌-◌, ◌<◌, ◌≤◌, List, [], ◌∷◌, ◌++◌, None, false}
use Rattle.board_world.specs.Board.{Entry, over}
use Rattle.board_world.specs.Activities.{World}
use Rattle.board_world.specs.World.{idled}
use Rattle.board_world.specs.Runs.{Arrival, Rises, run_with, since}
use Rattle.bank_model.specs.Fibers.{Fiber, Shared}
use Rattle.bank_model.specs.BoardMachine.{fibers, bank_start}
use Rattle.board_outside.specs.Moves.{Move, HasMet}
use Rattle.board_run.specs.Represents.{BoardState, Represents}
use Rattle.board_run.specs.Ran.{MayArrive}

-- the bank machine's world after so many instructions of an image, on a script and with these arrivals, with these free words
abbrev pub world_with : List ℕ → ℕ → List Entry → List Arrival → List ℕ → ℕ → World Fiber Shared
world_with image until script arrivals free n = run_with (fibers image) arrivals n (bank_start image until script free)

-- nothing arrives before a moment
abbrev pub NoneBefore : ℕ → List Arrival → Type 0
NoneBefore n [] = Unit {0}
NoneBefore n (a ∷ rest) = n ≤ a.count

-- none of them is an unplug
abbrev pub AllMay : List Arrival → Type 0
AllMay [] = Unit {0}
AllMay (a ∷ rest) = MayArrive a.act × AllMay rest

-- After n instructions of a course, and whatever has arrived by then, the board shows a world from which the course goes on as these
-- arrivals say that are left. The course wasn't over before.
pub record Along (image : List ℕ) (course : List ℕ → ℕ → World Fiber Shared) (left : List Arrival) (n : ℕ)
    (used : List ℕ) (moves : List Move) (b : BoardState) : Type 0 where
  pub at : List ℕ → World Fiber Shared
  pub shows : (rest : List ℕ) → Represents image b (at rest)
  pub free : b.plain.end ≡ None → (rest : List ℕ) → (at rest).shared.free ≡ rest
  pub met : (rest : List ℕ) → HasMet moves (at rest).board
  pub still : (rest : List ℕ) → idled (fibers image) (at rest) ≡ at rest
  pub rises : Rises n left
  pub onward : (rest : List ℕ) (m : ℕ) → n ≤ m
      → run_with (fibers image) (since n left) (m - n) (at rest) ≡ course (used ++ rest) m
  pub before : (rest : List ℕ) (j : ℕ) → j < n → over (course (used ++ rest) j).board ≡ false

-- where the board shows a world, that world makes no idle move
abbrev pub IsStill : List ℕ → BoardState → Type 0
IsStill image b = (w : World Fiber Shared) → Represents image b w → idled (fibers image) w ≡ w
