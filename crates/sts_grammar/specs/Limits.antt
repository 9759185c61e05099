-- The limits of a program's tokens.
use Rattle.std.specs.Prelude.{ℕ, ◌-◌}

-- the greatest nesting of a whole text
abbrev pub most_nesting : ℕ
most_nesting = 256

-- the nesting that a part of a text may have: the text is a level of its own
abbrev pub part_nesting : ℕ
part_nesting = most_nesting - 1

-- the most brackets that may be open at a token
abbrev pub most_open : ℕ
most_open = 64
