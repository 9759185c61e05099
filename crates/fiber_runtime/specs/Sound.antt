-- When the runtime's state is sound: each live key stands once, and what is kept of who doesn't run can be copied in.
use Rattle.std.specs.Prelude.{◌≡◌, ℕ, ◌+◌, ◌≤◌, ◌⊎◌, List, [], ◌∷◌, length, Option, Some, None, is_some}
use Rattle.slab.specs.Slab.{get, slab_len}
use Rattle.thumb_code.specs.Arithmetic.{bit_of}
use Rattle.thumb_code.specs.Machine.{State as Machine}
use Rattle.board_world.specs.Limits.{seat_limit, raiser_limit}
use Rattle.fiber_pool.specs.Kept.{Kept}
use Rattle.fiber_queues.specs.Keys.{listed, how_often}
use Rattle.fiber_runtime.specs.declared.turning.Turning.{Turning}
use Rattle.fiber_runtime.specs.declared.turning.Raiser.{Raiser}
use Rattle.bank_model.specs.Standing.{IsInside}
use Rattle.fiber_runtime.specs.State.{State, keys_on, ReachesBase, kept_of}

-- Each live key stands once: at who runs, at a raiser or in a list; a key that isn't live stands nowhere. This holds whatever the machine is,
-- which is lent.
pub record IsSound (s : State) : Type 0 where
  pub each : (key : ℕ) → how_often key (keys_on s) + how_often key (listed s.lists) ≡ bit_of (is_some (get s.pool key))
  pub count : length (keys_on s) + length (listed s.lists) ≡ slab_len s.pool
  pub most : slab_len s.pool ≤ seat_limit
  pub fits : (key : ℕ) (k : Kept) → get s.pool key ≡ Some k → (1 ≤ how_often key (keys_on s)) ⊎ ReachesBase k
  pub suspended : length s.raisers ≤ raiser_limit

-- Raisers stand inside, from an address on, the innermost lowest: each one's base is at most the next one's SP.
abbrev pub IsNested : ℕ → List Raiser → Type 0
IsNested at [] = Unit {0}
IsNested at (r ∷ rs) = (at ≤ r.registers.sp) × IsInside r.registers.sp r.base × IsNested r.base rs

-- The fiber in the machine stands below the raisers.
abbrev pub IsStanding : Option Turning → Machine → List Raiser → Type 0
IsStanding None m rs = IsNested 0 rs
IsStanding (Some t) m rs = ReachesBase (kept_of m t) × IsNested m.memory.base rs
