-- Which members an object has.
use Rattle.std.specs.Prelude.{◌≡◌, ℕ, ◌⊎◌, IsSome, List, [], ◌∷◌, codes}
use Rattle.serde_json.specs.Data.{Data}
use Rattle.serde_json.specs.Find.{get}
use Rattle.event_script.specs.declared.script.Act.{Act}
use Rattle.event_script.specs.declared.script.Act.TheVariants.{Down, Up, Raise, Unplug}

abbrev pub IsOneOf : List ℕ → List (List ℕ) → Type 0
IsOneOf k [] = ⊥
IsOneOf k (n ∷ ns) = (k ≡ n) ⊎ IsOneOf k ns

-- a member of each of these names, and no other
pub record HasExactly (names : List (List ℕ)) (d : Data) : Type 0 where
  pub each : (k : List ℕ) → IsOneOf k names → IsSome (get k d)
  pub no_other : (k : List ℕ) → IsSome (get k d) → IsOneOf k names

-- the members of an entry, by what it does
abbrev pub names_of : Act → List (List ℕ)
names_of (Down button) = codes "at" ∷ codes "do" ∷ codes "button" ∷ []
names_of (Up button) = codes "at" ∷ codes "do" ∷ codes "button" ∷ []
names_of (Raise event) = codes "at" ∷ codes "do" ∷ codes "source" ∷ codes "value" ∷ []
names_of (Unplug port) = codes "at" ∷ codes "do" ∷ codes "port" ∷ []
