-- The parts of soundness, as they are tested.
use Rattle.std.specs.Prelude.{◌≡◌, ℕ, ◌<◌, ◌≤◌, Bool, true, List, length, Some, slice_get}
use Rattle.std.specs.List.{AllByRecursion}
use Rattle.flat_ir.specs.declared.ops.Op.{Op}
use Rattle.flat_ir.specs.declared.ops.Function.{Function}
use Rattle.flat_ir.specs.Ops.{reads, writes, goes_on}
use Rattle.flat_ir.specs.WellFormed.{temporaries}
use Rattle.flat_ir.specs.Liveness.{IsLiveAt, IsLiveAfter}
use Rattle.register_assign.specs.declared.places.Place.{Place}
use Rattle.register_assign.specs.declared.places.Place.TheVariants.{Incoming}
use Rattle.register_assign.specs.Sound.{place_of, IsWithin}
use Rattle.register_assign.specs.Marks.{any_marked}

-- a temporary isn't in the incoming place of another parameter
abbrev pub Stays : Place → ℕ → Type 0
Stays place t = (j : ℕ) → place ≡ Incoming j → j ≡ t

-- no earlier temporary has its place
abbrev pub IsNew : List Place → ℕ → Type 0
IsNew places t = (u : ℕ) → u < t → place_of places u ≡ place_of places t → ⊥

pub record IsParameterSound (places : List Place) (t : ℕ) : Type 0 where
  pub stays : Stays (place_of places t) t
  pub apart : IsNew places t

-- what can be told without liveness
pub record IsShapeSound (f : Function) (places : List Place) : Type 0 where
  pub one_each : length places ≡ temporaries f
  pub within : AllByRecursion (IsWithin f) places
  pub parameters : (t : ℕ) → t < f.params → IsParameterSound places t

-- an op doesn't write into the place of a temporary behind which a place is marked
abbrev pub IsClear : Op → ℕ → List Place → ℕ → List Bool → Type 0
IsClear op at places u marks =
    (t : ℕ) → writes op ≡ Some t → t < length places → place_of places u ≡ place_of places t
    → any_marked marks (goes_on at op) ≡ true → u ≡ t

-- no op writes into the place of a temporary that is live after it
abbrev pub IsKept : List Op → List Place → ℕ → Type 0
IsKept ops places u =
    (at t : ℕ) (op : Op) → slice_get ops at ≡ Some op → writes op ≡ Some t → IsLiveAfter ops u at → t < length places
    → place_of places u ≡ place_of places t → u ≡ t

pub record IsTemporarySound (f : Function) (places : List Place) (u : ℕ) : Type 0 where
  pub entry : IsLiveAt f.ops u 0 → u < f.params
  pub kept : IsKept f.ops places u

-- a number that is no temporary of the function isn't live at entry
abbrev pub IsDeadStranger : ℕ → List Op → ℕ → Type 0
IsDeadStranger known ops t = known ≤ t → IsLiveAt ops t 0 → ⊥

-- so are all that an op reads
abbrev pub ReadsNoStranger : ℕ → List Op → Op → Type 0
ReadsNoStranger known ops op = AllByRecursion (IsDeadStranger known ops) (reads op)
