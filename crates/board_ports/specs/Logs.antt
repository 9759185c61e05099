-- The log of a device.
use Rattle.std.specs.Prelude.{◌≡◌, ◌++◌, ℕ, List, Option, Some, map}
use Rattle.sts_base.specs.Prefix.{IsPrefix}

-- Where a device told its log, it has these entries more, each a moment and a word.
abbrev pub Logs : Option (List (ℕ × ℕ)) → Option (List (ℕ × ℕ)) → List (ℕ × ℕ) → Type 0
Logs old new more = (had : List (ℕ × ℕ)) → old ≡ Some had → new ≡ Some (had ++ more)

-- Where a device told its log, it has the first of these entries more.
pub record LogsFirst (old new : Option (List (ℕ × ℕ))) (entries : List (ℕ × ℕ)) : Type 0 where
  pub given : List (ℕ × ℕ)
  pub in_order : IsPrefix given entries
  pub logged : Logs old new given

-- the entries of bytes that are written at a moment, in their order
abbrev pub at_moment : ℕ → List ℕ → List (ℕ × ℕ)
at_moment now bytes = map (λ byte. (now, byte)) bytes
