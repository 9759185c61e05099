-- Losses that are found by a number.
use Rattle.std.specs.Prelude.{◌≡◌, ◌+◌, ◌*◌, ◌<◌, ◌≤◌, ◌⊎◌, ◌==◌, ℕ, false, List}
use Rattle.std.specs.List.{list_any}
use Rattle.std.specs.List.Sorted.{IsNonDecreasing}
use Rattle.class_file.specs.declared.class.Loss.{Loss}
use Rattle.class_radio.specs.Losses.{lost_by}

-- the number that stands for a moment and two boards, each below 2^32
abbrev pub loss_key : (at from to : ℕ) → ℕ
loss_key at from to = (at * 4294967296 + from) * 4294967296 + to

-- These are the numbers of the losses, whose boards' numbers are below 2^32.
pub record HasKeys (list : List Loss) (keys : List ℕ) : Type 0 where
  pub below : (at from to : ℕ) → 4294967296 ≤ from ⊎ 4294967296 ≤ to → lost_by list at from to ≡ false
  pub found : (at from to : ℕ) → at < 4294967296 → from < 4294967296 → to < 4294967296
      → lost_by list at from to ≡ list_any (λ k. k == loss_key at from to) keys

-- They rise besides.
pub record IsIndex (list : List Loss) (keys : List ℕ) : Type 0 where
  pub has : HasKeys list keys
  pub rises : IsNonDecreasing keys
