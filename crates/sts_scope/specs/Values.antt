-- Values that are kept by small numbers.
use Rattle.std.specs.Prelude.{ℕ, Option, None, List, get_or}

-- the value of a number, if it has one
abbrev pub value_at : List (Option ℕ) → ℕ → Option ℕ
value_at values x = get_or values x None
