-- Which temporaries are live.
use Rattle.std.specs.Prelude.{◌≡◌, ℕ, Some, List, slice_get, Contains, ◌<◌}
use Rattle.flat_ir.specs.declared.ops.Op.{Op}
use Rattle.flat_ir.specs.declared.ops.Function.{Function}
use Rattle.flat_ir.specs.Ops.{reads, writes, goes_on}

-- A temporary is live at a place where some path of ops from there reads it before it is written: the op there reads it, or
-- doesn't write it and it is live where the path goes on.
pub data IsLiveAt (ops : List Op) (t : ℕ) : ℕ → Type 0 where
  is_read : (at : ℕ) (op : Op) → slice_get ops at ≡ Some op → Contains (reads op) t → IsLiveAt ops t at
  is_kept : (at next : ℕ) (op : Op) → slice_get ops at ≡ Some op → (writes op ≡ Some t → ⊥)
      → Contains (goes_on at op) next → IsLiveAt ops t next → IsLiveAt ops t at

-- It is live after an op where it is live at a place at which a run may go on.
abbrev pub IsLiveAfter : List Op → ℕ → ℕ → Type 0
IsLiveAfter ops t at =
    (op : Op) × (next : ℕ) × (slice_get ops at ≡ Some op) × Contains (goes_on at op) next × IsLiveAt ops t next

-- nothing but a parameter is live where a function begins
abbrev pub OnlyParametersAreLive : Function → Type 0
OnlyParametersAreLive f = (t : ℕ) → IsLiveAt f.ops t 0 → t < f.params
