-- How locals are found by their names.
use Rattle.std.specs.Prelude.{◌≡◌, ℕ, ◌==◌, Bool, false, Option, Some, None, is_some, List, [], ◌∷◌, ◌++◌, length, take, slice_get, if◌then◌else◌}
use Rattle.std.specs.Borrow.{Bor}
use Rattle.persistent_maps.specs.declared.maps.PersistentMap.{PersistentMap}
use Rattle.persistent_maps.specs.Maps.{value_in}
use Rattle.sts_scope.specs.declared.known.Local.{Local}
use Rattle.sts_scope.specs.declared.known.Found.{Found}
use Rattle.sts_scope.specs.declared.known.Found.TheVariants as found
use Rattle.sts_scope.specs.Places.{last_named}

-- The parameters and locals of the functions around, and those of this function in scope, outermost first, of which those from `block` on are of this block.
pub record InScope : Type 0 where
  pub around : List Local
  pub own : List Local
  pub block : ℕ

abbrev pub in_scope : List Local → List Local → ℕ → InScope
in_scope around own block = record { around = around; own = own; block = block }

-- what a name stands for, if a local has it: this function's innermost one, else one of a function around
abbrev pub local_found : InScope → ℕ → Option Found
local_found s x = elim (last_named s.own x) [
  | Some i ↦ Some (found.Local i)
  | None ↦ if is_some (last_named s.around x) then Some found.Captured else None
]

-- the locals of functions around, one function's behind the other's
abbrev pub around_of : List (Bor (List Local)) → List Local
around_of [] = []
around_of (locals ∷ rest) = locals.now ++ around_of rest

-- a function has a local of a name at a place
abbrev pub is_at : List Local → ℕ → ℕ → Bool
is_at own i x = elim (slice_get own i) [ None ↦ false | Some l ↦ l.name == x ]

-- In a map of all in scope a name has the place of its innermost local among those of its function.
pub record HasInnermost (around own : List Local) (map : PersistentMap) : Type 0 where
  pub own_are : (x i : ℕ) → last_named own x ≡ Some i → value_in map x ≡ Some i
  pub others_are : (x : ℕ) → last_named own x ≡ None → is_some (value_in map x) ≡ is_some (last_named around x)

-- So it is in the map, and so it was in that before each local of this function.
pub record AreNamed (around own : List Local) (map : PersistentMap) (before : List PersistentMap) : Type 0 where
  pub in_map : HasInnermost around own map
  pub as_many : length before ≡ length own
  pub were : (n : ℕ) (earlier : PersistentMap) → slice_get before n ≡ Some earlier
      → HasInnermost around (take n own) earlier
