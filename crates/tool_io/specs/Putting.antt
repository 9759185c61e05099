-- What a put does to what a sink has taken, and when it may fail.
use Rattle.std.specs.Prelude.{◌≡◌, ◌≤◌, ◌++◌, ℕ, List, OnErr, OnOk, Option, Some, Result}
use Rattle.sts_base.specs.Faults.{Rose}
use Rattle.sts_base.specs.Prefix.{IsPrefix}

-- Where a sink told what it had taken, it has taken these bytes more.
pub record Took (old new : Option (List ℕ)) (bytes : List ℕ) : Type 0 where
  pub told : (had : List ℕ) → old ≡ Some had → new ≡ Some (had ++ bytes)

-- Where a sink told what it had taken, it has taken a prefix of these bytes more.
pub record TookPart (old new : Option (List ℕ)) (bytes : List ℕ) : Type 0 where
  pub told : (had : List ℕ) → old ≡ Some had → (part : List ℕ) × IsPrefix part bytes × (new ≡ Some (had ++ part))

-- A put of these bytes, or several in a row, went so: all were taken, or a part of them and the count of faults rose.
pub record Puts {T E : Type 0} (taken taken' : Option (List ℕ)) (faults faults' : ℕ) (bytes : List ℕ)
    (outcome : Result T E) : Type 0 where
  pub took : OnOk outcome (Took taken taken' bytes)
  pub part : OnErr outcome (TookPart taken taken' bytes)
  pub later : faults ≤ faults'
  pub failed : OnErr outcome (Rose faults faults')

-- The same of a sink before and after: `taken` tells what it had taken, and `faults` how often it had failed.
abbrev pub PutsTo : {S T E : Type 0} → (S → Option (List ℕ)) → (S → ℕ) → S → S → List ℕ → Result T E → Type 0
PutsTo taken faults old new bytes outcome = Puts (taken old) (taken new) (faults old) (faults new) bytes outcome
