-- Names with their numbers that are put into a map.
use Rattle.std.proofs.Common.{◌≡◌, ℕ, List, ◌++◌, Option}
use Rattle.std.specs.Option.{option_or}
use Rattle.std.specs.Map.{lookup}
use Rattle.std.specs.Ordering.{nat_cmp, is_eq}
use Rattle.persistent_maps.specs.declared.maps.PersistentMap.{PersistentMap}
use Rattle.persistent_maps.specs.Maps.{value_in}

-- the number of a name in a list of names with their numbers
abbrev pub noted : List (ℕ × ℕ) → ℕ → Option ℕ
noted all x = lookup (λ y. is_eq (nat_cmp x y)) all

-- all but the rest of a list of names with their numbers were put into a map, the last one first
pub record IsPut (all rest : List (ℕ × ℕ)) (base made : PersistentMap) : Type 0 where
  pub done : List (ℕ × ℕ)
  pub parts : all ≡ rest ++ done
  pub same : (x : ℕ) → value_in made x ≡ option_or (noted done x) (value_in base x)
