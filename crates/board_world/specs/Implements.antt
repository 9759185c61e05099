-- When a kind of activity implements another one.
use Rattle.std.specs.Prelude.{ℕ, List, Option, Some}
use Rattle.board_world.specs.Board.{Board, Entry}
use Rattle.board_world.specs.Kinds.{Kind}
use Rattle.board_world.specs.World.{start}
use Rattle.board_world.specs.Runs.{Arrival, Rises, Keeps, run_with}
use Rattle.board_world.specs.Observations.{End, Faulted}

-- the boards of all runs of a kind that begin at main over this shared state: by the script's end and its entries, by
-- what arrives, and after how many steps
abbrev pub boards_from : {A S : Type 0} → Kind A S → (main : ℕ) → (shared : S) → ℕ → List Entry → List Arrival → ℕ
    → Board
boards_from K main shared until script arrivals n = (run_with K arrivals n (start K main shared until script)).board

-- a run that hasn't ended, or not by a fault
abbrev pub EndsByNoFault : Option End → Type 0
EndsByNoFault (Some (Faulted kind address)) = ⊥
EndsByNoFault _ = Unit {0}

-- The runs below do what the source's do, while they go on in less than bound * (k + 1) steps for k, and end by no fault, on each script and
-- whatever arrives.
pub record Implements (bound : ℕ) (source below : (until : ℕ) → List Entry → List Arrival → (steps : ℕ) → Board) : Type 0 where
  pub keeps : (until : ℕ) (script : List Entry) (arrivals : List Arrival) → Rises 0 arrivals → (m : ℕ)
      → Keeps bound (source until script) (below until script) arrivals m
  pub no_fault : (until : ℕ) (script : List Entry) (arrivals : List Arrival) → Rises 0 arrivals → (m : ℕ)
      → EndsByNoFault (below until script arrivals m).end
