-- What the outside meets of a run, in order.
use Rattle.std.specs.Prelude.{◌≡◌, ℕ, suc, List, [], ◌∷◌, ◌++◌, length}
use Rattle.board_world.specs.Observations.{Observation}
use Rattle.board_world.specs.Board.{Board}

-- something is seen, or a port's device is unplugged
pub data Move : Type 0 where
  Seen : (observation : Observation) → Move
  Unplugged : (port : ℕ) → Move

-- the observations, and the unplugs with the number of observations before each
abbrev pub seen_of : List Move → List Observation
seen_of [] = []
seen_of (Seen o ∷ ms) = o ∷ seen_of ms
seen_of (Unplugged port ∷ ms) = seen_of ms

abbrev pub unplugged_of : ℕ → List Move → List (ℕ × ℕ)
unplugged_of k [] = []
unplugged_of k (Seen o ∷ ms) = unplugged_of (suc k) ms
unplugged_of k (Unplugged port ∷ ms) = (port, k) ∷ unplugged_of k ms

-- These are the moves that a board of the world has met.
pub record HasMet (moves : List Move) (b : Board) : Type 0 where
  pub seen : b.seen ≡ seen_of moves
  pub unplugged : b.unplugged ≡ unplugged_of 0 moves

-- The new board has met these moves behind those of the old one.
pub record Meets (moves : List Move) (old new : Board) : Type 0 where
  pub seen : new.seen ≡ old.seen ++ seen_of moves
  pub unplugged : new.unplugged ≡ old.unplugged ++ unplugged_of (length old.seen) moves
