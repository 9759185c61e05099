-- Counts of calls and of faults.
use Rattle.std.specs.Prelude.{ℕ, zero, suc}
use Rattle.sts_base.specs.Faults.{one_more}

-- the count after some more, one by one
abbrev pub some_more : ℕ → ℕ → ℕ
some_more zero count = count
some_more (suc more) count = one_more (some_more more count)
