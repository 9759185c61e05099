-- Live intervals, and places that are chosen by them.
use Rattle.std.specs.Prelude.{◌≡◌, ℕ, ◌+◌, ◌<◌, ◌≤◌, ◌⊎◌, List, length, Some, slice_get, slice_index_or}
use Rattle.flat_ir.specs.declared.ops.Op.{Op}
use Rattle.flat_ir.specs.declared.ops.Function.{Function}
use Rattle.flat_ir.specs.WellFormed.{temporaries}
use Rattle.flat_ir.specs.Ops.{writes}
use Rattle.flat_ir.specs.Liveness.{IsLiveAt}
use Rattle.register_assign.specs.declared.places.Place.{Place}
use Rattle.register_assign.specs.declared.places.Place.TheVariants.{Reg, Slot, Incoming}
use Rattle.register_assign.specs.declared.intervals.Interval.{Interval}
use Rattle.register_assign.specs.Sound.{place_of, IsWithin}

-- a temporary needs its place at an op: it is live there, or the op writes it
abbrev pub IsBusyAt : List Op → ℕ → ℕ → Type 0
IsBusyAt ops t at = IsLiveAt ops t at ⊎ ((op : Op) × (slice_get ops at ≡ Some op) × (writes op ≡ Some t))

-- an interval has every place at which the temporary is busy
pub record Covers (ops : List Op) (t : ℕ) (interval : Interval) : Type 0 where
  pub busy : (at : ℕ) → IsBusyAt ops t at → (interval.first ≤ at) × (at < interval.end)

-- it has the function's entry
abbrev pub HasEntry : Interval → Type 0
HasEntry interval = (interval.first ≡ 0) × (0 < interval.end)

-- two intervals have no place in common
abbrev pub AreApart : Interval → Interval → Type 0
AreApart a b = (a.end ≤ b.first) ⊎ (b.end ≤ a.first)

abbrev pub interval_of : List Interval → ℕ → Interval
interval_of intervals t = slice_index_or intervals t (record { first = 0; end = 0 })

-- no temporary that has a register so far is busy while this one is
abbrev pub IsFree : ℕ → List Place → List Interval → Interval → Type 0
IsFree r places intervals interval =
    (u : ℕ) → u < length places → place_of places u ≡ Reg r → AreApart (interval_of intervals u) interval

-- the slot or incoming word of a temporary's own
abbrev pub IsHome : ℕ → ℕ → Place → Type 0
IsHome params t (Reg r) = ⊥
IsHome params t (Slot j) = params + j ≡ t
IsHome params t (Incoming j) = (j ≡ t) × (t < params)

-- the first n temporaries stand each in its own
pub record AreHomes (f : Function) (places : List Place) (n : ℕ) : Type 0 where
  pub long : length places ≡ n
  pub own : (u : ℕ) → u < n → IsHome f.params u (place_of places u)

-- these are the intervals of the first n temporaries
pub record AreIntervals (f : Function) (intervals : List Interval) (n : ℕ) : Type 0 where
  pub long : length intervals ≡ n
  pub covers : (u : ℕ) → u < n → Covers f.ops u (interval_of intervals u)
  pub entry : (u : ℕ) → u < n → u < f.params → HasEntry (interval_of intervals u)

-- Every temporary stands in a place of its own, or in a register; and those in one register have intervals that are apart.
pub record AreAssigned (f : Function) (places : List Place) (intervals : List Interval) : Type 0 where
  pub long : length places ≡ temporaries f
  pub intervals_are : AreIntervals f intervals (temporaries f)
  pub within : (u : ℕ) → u < temporaries f → IsWithin f (place_of places u)
  pub slots : (u : ℕ) → u < temporaries f → (j : ℕ) → place_of places u ≡ Slot j → f.params + j ≡ u
  pub incoming : (u : ℕ) → u < temporaries f → (j : ℕ) → place_of places u ≡ Incoming j → j ≡ u
  pub apart : (u v : ℕ) → u < v → v < temporaries f → place_of places u ≡ place_of places v
      → AreApart (interval_of intervals u) (interval_of intervals v)
