-- Counts of faults.
use Rattle.std.specs.Prelude.{ℕ, ◌+◌, ◌-◌, ◌^◌, ◌≤◌, min}

-- the count after one more; it stays at the end of its type
abbrev pub one_more : ℕ → ℕ
one_more count = min (count + 1) (2 ^ 64 - 1)

-- A count of faults rose between two moments. A count that stands at the end of its type counts as one that rose.
abbrev pub Rose : ℕ → ℕ → Type 0
Rose before now = one_more before ≤ now
