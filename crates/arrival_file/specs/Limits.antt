-- What the form of arrivals sets.
use Rattle.std.specs.Prelude.{ℕ}

-- arrivals
abbrev pub arrival_limit : ℕ
arrival_limit = 4096

-- the greatest number of instructions behind which an arrival may come
abbrev pub greatest_after : ℕ
greatest_after = 2147483648
