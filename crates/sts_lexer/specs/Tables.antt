-- How the tables change.
use Rattle.std.specs.Prelude.{◌≡◌, ℕ, ◌+◌, ◌≤◌, List, ◌++◌, length}
use Rattle.sts_base.specs.Distinct.{IsDistinct}
use Rattle.sts_base.specs.declared.tables.Tables.{Tables}

-- the strings that were there keep their numbers: more are only added behind them
abbrev pub Extends : List (List ℕ) → List (List ℕ) → Type 0
Extends old new = (added : List (List ℕ)) × (new ≡ old ++ added)

-- equal spellings have equal numbers, in both tables
pub record AreDistinct (tables : Tables) : Type 0 where
  pub names : IsDistinct tables.names
  pub texts : IsDistinct tables.texts

-- both tables only grew, each by this many strings at most
pub record GrewBy (most : ℕ) (old new : Tables) : Type 0 where
  pub names : Extends old.names new.names
  pub texts : Extends old.texts new.texts
  pub few_names : length new.names ≤ length old.names + most
  pub few_texts : length new.texts ≤ length old.texts + most
