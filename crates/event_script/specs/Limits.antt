-- What the form of a script sets.
use Rattle.std.specs.Prelude.{ℕ}

-- entries
abbrev pub entry_limit : ℕ
entry_limit = 4096

-- the greatest source and value of an event
abbrev pub greatest_number : ℕ
greatest_number = 65535
