-- The display: a board behind a show.
use Rattle.std.specs.Prelude.{ℕ, Bool, if◌then◌else◌, [], ◌∷◌, ◌++◌}
use Rattle.board_world.specs.Observations.{Show}
use Rattle.board_world.specs.Board.{Board}

-- where the frame changes it is seen, else nothing is
abbrev pub seen_if : Bool → ℕ → Board → Board
seen_if changed frame b = if changed then record b { frame = frame; seen = b.seen ++ Show b.clock frame ∷ [] } else b
