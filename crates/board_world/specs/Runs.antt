-- The runs of a world: the plain one, the one in which somebody outside acts between two steps, and what a run below
-- another is to look like.
use Rattle.std.specs.Prelude.{◌≡◌, ℕ, zero, suc, ◌+◌, ◌-◌, ◌*◌, ◌≤◌, ◌<◌, false, not, ◌&&◌, if◌then◌else◌, nat_le, ◌==◌, List, [], ◌∷◌, filter, map}
use Rattle.board_world.specs.Board.{Board, Act, over, arrive}
use Rattle.board_world.specs.Kinds.{Kind}
use Rattle.board_world.specs.Activities.{World}
use Rattle.board_world.specs.World.{tick}
use Rattle.board_world.specs.Simulation.{Paired}

-- an act, and the number of the step behind which it comes
pub record Arrival : Type 0 where
  pub count : ℕ
  pub act : Act

-- the act is applied, unless the run has ended
abbrev pub acts : {A S : Type 0} → Act → World A S → World A S
acts act w = if over w.board then w else record w { board = arrive act w.board }

-- all acts of number n are, in order
abbrev pub acts_at : {A S : Type 0} → ℕ → List Arrival → World A S → World A S
acts_at n [] w = w
acts_at n (a ∷ rest) w = acts_at n rest (if a.count == n then acts a.act w else w)

module _ {A S : Type 0} (K : Kind A S) where
  -- the world after n counted steps
  abbrev pub run : ℕ → World A S → World A S
  run zero w = w
  run (suc n) w = tick K (run n w)

  -- the same with arrivals, each behind the step of its number
  abbrev pub run_with : List Arrival → ℕ → World A S → World A S
  run_with arrivals zero w = acts_at 0 arrivals w
  run_with arrivals (suc n) w = acts_at (suc n) arrivals (tick K (run_with arrivals n w))

  -- its board, by what arrives and after how many steps
  abbrev pub board_with : World A S → List Arrival → ℕ → Board
  board_with w arrivals n = (run_with arrivals n w).board

-- the numbers don't fall, from n on
abbrev pub Rises : ℕ → List Arrival → Type 0
Rises n [] = Unit {0}
Rises n (a ∷ rest) = (n ≤ a.count) × Rises a.count rest

-- nor do they pass k
abbrev pub RisesTo : ℕ → List Arrival → ℕ → Type 0
RisesTo n [] k = n ≤ k
RisesTo n (a ∷ rest) k = (n ≤ a.count) × RisesTo a.count rest k

-- the arrivals as they are counted from step n on
abbrev pub since : ℕ → List Arrival → List Arrival
since n arrivals = map (λ (a : Arrival). record a { count = a.count - n }) arrivals

-- those that are applied within m steps: that come by then, and before the run has ended
abbrev pub applied : (ℕ → Board) → List Arrival → ℕ → List Arrival
applied board arrivals m = filter (λ a. nat_le a.count m && not (over (board a.count))) arrivals

-- an arrival of the run below, and its place in the source's
pub record Placed (bound : ℕ) (a b : Arrival) : Type 0 where
  pub act : a.act ≡ b.act
  pub at_most : b.count ≤ a.count
  pub at_least : a.count < bound * (b.count + 1)

-- After m steps the board of the run below is that of the source's run after some, with the arrivals that were applied by then at places of its
-- own; for another m these may be others. While it goes on, m < bound * (steps + 1): so where the source has ended, with these arrivals, in s
-- steps, the run below has in bound * s (`simulated_runs_end_in_time_with_arrivals`).
pub record Keeps (bound : ℕ) (source below : List Arrival → ℕ → Board) (arrivals : List Arrival) (m : ℕ) : Type 0 where
  pub steps : ℕ
  pub places : List Arrival
  pub rises : RisesTo 0 places steps
  pub placed : Paired (Placed bound) (applied (below arrivals) arrivals m) places
  pub at_most : steps ≤ m
  pub board : source places steps ≡ below arrivals m
  pub at_least : over (below arrivals m) ≡ false → m < bound * (steps + 1)
