-- Scripts up to a moment.
use Rattle.std.specs.Prelude.{ℕ, nat_lt, List, filter}
use Rattle.board_world.specs.Board.{Entry}

-- a script's entries before a moment
abbrev pub entries_before : ℕ → List Entry → List Entry
entries_before t script = filter (λ (e : Entry). nat_lt e.at t) script
