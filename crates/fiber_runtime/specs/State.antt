-- What a contract sees of the runtime: its state, fibers whose words stand in the stack region as records would keep them, and fibers as
-- those of the bank machine, each with its own words.
use Rattle.std.specs.Prelude.{ℕ, List, [], ◌∷◌, ◌++◌, Option, Some, None}
use Rattle.slab.specs.Slab.{Slab}
use Rattle.thumb_code.specs.Machine.{State as Machine}
use Rattle.bank_model.specs.Fibers.{Fiber}
use Rattle.bank_model.specs.Standing.{words_in, Spans}
use Rattle.fiber_pool.specs.Kept.{Kept, kept_at}
use Rattle.fiber_queues.specs.Lists.{ListsOf}
use Rattle.fiber_runtime.specs.declared.turning.Turning.{Turning}
use Rattle.fiber_runtime.specs.declared.turning.Raiser.{Raiser}

pub record State : Type 0 where
  pub machine : Machine
  pub running : Option Turning
  pub raisers : List Raiser  -- the innermost first
  pub pool : Slab Kept
  pub lists : ListsOf ℕ

-- the key of the running fiber's record
abbrev pub running_key : Option Turning → Option ℕ
running_key None = None
running_key (Some t) = t.key

-- the keys of those who run or are suspended
abbrev pub key_of : Option ℕ → List ℕ
key_of None = []
key_of (Some key) = key ∷ []

abbrev pub keys_suspended : List Raiser → List ℕ
keys_suspended [] = []
keys_suspended (r ∷ rs) = key_of r.turning.key ++ keys_suspended rs

abbrev pub keys_on : State → List ℕ
keys_on s = key_of (running_key s.running) ++ keys_suspended s.raisers

-- the running fiber as a record would keep it
abbrev pub kept_of : Machine → Turning → Kept
kept_of m t = record {
  registers = m.registers;
  base = m.memory.base;
  value = t.value;
  listener = t.listener;
  words = words_in m.memory.stack m.registers.sp m.memory.base;
}

-- What is kept reaches from SP to the base.
abbrev pub ReachesBase : Kept → Type 0
ReachesBase k = Spans k.registers.sp k.words k.base

-- the innermost raiser's SP
abbrev pub innermost : List Raiser → Option ℕ
innermost [] = None
innermost (r ∷ rs) = Some r.registers.sp

-- a raiser, whose words stand in the stack region from SP to the base
abbrev pub fiber_raising : List ℕ → Raiser → Fiber
fiber_raising stack r =
    record { registers = r.registers; base = r.base; bank = words_in stack r.registers.sp r.base }

-- one that is kept in a record
abbrev pub fiber_kept : Kept → Fiber
fiber_kept k = record { registers = k.registers; base = k.base; bank = k.words }

abbrev pub fiber_at : Slab Kept → ℕ → Fiber
fiber_at pool key = fiber_kept (kept_at pool key)
