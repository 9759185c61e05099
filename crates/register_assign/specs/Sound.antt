-- Where temporaries stand, and when that is sound.
use Rattle.std.specs.Prelude.{◌≡◌, ℕ, ◌+◌, ◌<◌, ◌≤◌, List, length, Some, slice_get, slice_index_or}
use Rattle.flat_ir.specs.declared.ops.Op.{Op}
use Rattle.flat_ir.specs.declared.ops.Function.{Function}
use Rattle.flat_ir.specs.Ops.{writes}
use Rattle.flat_ir.specs.WellFormed.{temporaries}
use Rattle.flat_ir.specs.Liveness.{IsLiveAfter, OnlyParametersAreLive}
use Rattle.register_assign.specs.declared.places.Place.{Place}
use Rattle.register_assign.specs.declared.places.Place.TheVariants.{Reg, Slot, Incoming}

-- the place of a temporary; past the end of the list none is asked for
abbrev pub place_of : List Place → ℕ → Place
place_of places t = slice_index_or places t (Reg 0)

-- A place is one of the function's: a register from r4 to r7, one of its slots, one of its incoming words.
abbrev pub IsWithin : Function → Place → Type 0
IsWithin f (Reg r) = (4 ≤ r) × (r ≤ 7)
IsWithin f (Slot j) = j < f.locals + f.operands
IsWithin f (Incoming j) = j < f.params

-- Places are sound where all of these hold.
pub record ArePlacesSound (f : Function) (places : List Place) : Type 0 where
  -- there is one for each temporary
  pub one_each : length places ≡ temporaries f
  -- no temporary but a parameter is live at entry
  pub entry : OnlyParametersAreLive f
  -- the parameters have distinct places
  pub apart : (t u : ℕ) → t < f.params → u < f.params → place_of places t ≡ place_of places u → t ≡ u
  -- a parameter in an incoming place has that of its own number
  pub stays : (t j : ℕ) → t < f.params → place_of places t ≡ Incoming j → j ≡ t
  -- each op's written place is the place of no other temporary that is live after it
  pub written : (at t u : ℕ) (op : Op) → slice_get f.ops at ≡ Some op → writes op ≡ Some t → IsLiveAfter f.ops u at
      → t < temporaries f → u < temporaries f → place_of places u ≡ place_of places t → u ≡ t
  -- registers are r4 to r7, and slots and incoming places are within the measures
  pub within : (t : ℕ) → t < temporaries f → IsWithin f (place_of places t)
