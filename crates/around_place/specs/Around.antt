-- Places by line and column.
use Rattle.std.specs.Prelude.{◌≡◌, ℕ, ◌+◌}

-- a place has this line and column, where the last line that has begun there is the one of that number and begins at `start`
abbrev pub IsLineColumn : ℕ → ℕ → ℕ → ℕ → ℕ → Type 0
IsLineColumn lines start at line column = (line ≡ lines) × (start + column ≡ at + 1)
