-- Marks of the places where a temporary is live.
use Rattle.std.specs.Prelude.{◌≡◌, ℕ, suc, ◌<◌, ◌≤◌, ◌==◌, Bool, true, false, not, ◌&&◌, ◌||◌, Option, Some, None, List, [], ◌∷◌, length, slice_get, slice_index_or}
use Rattle.std.specs.List.{list_any}
use Rattle.flat_ir.specs.declared.ops.Op.{Op}
use Rattle.flat_ir.specs.Ops.{reads, writes, goes_on}
use Rattle.flat_ir.specs.Liveness.{IsLiveAt}

-- a temporary is one of some numbers
abbrev pub is_among : ℕ → List ℕ → Bool
is_among t numbers = list_any (λ x. x == t) numbers

-- it is the one that is written
abbrev pub is_the : ℕ → Option ℕ → Bool
is_the t None = false
is_the t (Some to) = to == t

-- a place is marked
abbrev pub is_marked : List Bool → ℕ → Bool
is_marked marks at = slice_index_or marks at false

-- one of some places is marked
abbrev pub any_marked : List Bool → List ℕ → Bool
any_marked marks [] = false
any_marked marks (at ∷ rest) = is_marked marks at || any_marked marks rest

-- a place is to be marked: the op there reads the temporary, or doesn't write it and a place where a run goes on is marked
abbrev pub is_due : Op → ℕ → ℕ → List Bool → Bool
is_due op t at marks = is_among t (reads op) || (not (is_the t (writes op)) && any_marked marks (goes_on at op))

-- the marks are those of the places at which the temporary is live
pub record AreMarks (ops : List Op) (t : ℕ) (marks : List Bool) : Type 0 where
  pub long : length marks ≡ length ops
  pub live : (at : ℕ) → is_marked marks at ≡ true → IsLiveAt ops t at
  pub all : (at : ℕ) → IsLiveAt ops t at → is_marked marks at ≡ true

-- every marked place is one at which the temporary is live
abbrev pub AreLive : List Op → ℕ → List Bool → Type 0
AreLive ops t marks = (at : ℕ) → is_marked marks at ≡ true → IsLiveAt ops t at

-- every place that is to be marked is marked, from one on
abbrev pub AreClosedFrom : ℕ → List Op → ℕ → List Bool → Type 0
AreClosedFrom from ops t marks =
    (at : ℕ) (op : Op) → from ≤ at → slice_get ops at ≡ Some op → is_due op t at marks ≡ true
    → is_marked marks at ≡ true

-- how many places aren't marked
abbrev pub unmarked : List Bool → ℕ
unmarked [] = 0
unmarked (true ∷ marks) = unmarked marks
unmarked (false ∷ marks) = suc (unmarked marks)

-- what a pass backwards over the ops leaves of the marks, and whether it made one
pub record HasPassed (ops : List Op) (t : ℕ) (old new : List Bool) (changed : Bool) : Type 0 where
  pub live : AreLive ops t new
  pub fewer : changed ≡ true → unmarked new < unmarked old
  pub closed : changed ≡ false → AreClosedFrom 0 ops t new
