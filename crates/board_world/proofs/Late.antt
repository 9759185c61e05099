-- Where the run above has ended in time, so has the one below.
use Rattle.std.proofs.Common.{◌≡◌, ℕ, ◌+◌, ◌-◌, ◌*◌, ◌≤◌, ◌<◌, Bool, true, false, List, refl, ap, sym, ◌∙◌, arith}
use Rattle.board_world.specs.Board.{Board, over}
use Rattle.board_world.specs.Kinds.{Kind}
use Rattle.board_world.specs.Activities.{World}
use Rattle.board_world.specs.Runs.{Arrival, board_with}
use Rattle.board_world.proofs.ByList.{with_over_later}

-- a run that has ended is later as it was then
later : {A S : Type 0} (K : Kind A S) (s k : ℕ) (places : List Arrival) (w : World A S) → s ≤ k → over (board_with K w places s) ≡ true → over (board_with K w places k) ≡ true
later {A = A} {S = S} K s k places w l e =
    (let sum : k ≡ (k - s) + s = omega arith in
    ap (λ i. over (board_with K w places i)) sum ∙ ap (λ (v : World A S). over v.board) (with_over_later K s (k - s) places w e) ∙ e)

pub in_time : {A S : Type 0} (K : Kind A S) (bound : ℕ) (w : World A S) (places : List Arrival) (steps m : ℕ) (below : Board) → board_with K w places steps ≡ below → (over below ≡ false → m < bound * (steps + 1))
    → (s : ℕ) → bound * s ≤ m → over (board_with K w places s) ≡ true → over below ≡ true
in_time K bound w places steps m below same at_least s l e = by_end (over below) refl
  where
    late : over below ≡ false → s ≤ steps
    late o = (let more : m < bound * (steps + 1) = at_least o in grind (arith, more, l))

    by_end : (c : Bool) → over below ≡ c → over below ≡ true
    by_end true o = o
    by_end false o = sym (ap over same) ∙ later K s steps places w (late o) e
