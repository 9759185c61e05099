-- What the runtime's calls do to its state.
use Rattle.std.specs.Prelude.{◌≡◌, ◌≢◌, ℕ, ◌+◌, ◌<◌, ◌≤◌, List, [], ◌∷◌, ◌++◌, length, take, Some, None}
use Rattle.slab.specs.Slab.{Slab, get, slab_len, Updates}
use Rattle.thumb_code.specs.Map.{stack_at, place}
use Rattle.thumb_code.specs.Machine.{State as Machine, begun, base_of, main_of, return_of}
use Rattle.board_world.specs.declared.events.Event.{Event}
use Rattle.board_world.specs.Limits.{seat_limit}
use Rattle.board_world.specs.Rules.{wake_time}
use Rattle.board_world.specs.Waiting.{chosen, hears}
use Rattle.fiber_pool.specs.Kept.{Kept, unused, kept_at}
use Rattle.fiber_queues.specs.Lists.{ListsOf, no_lists}
use Rattle.fiber_queues.specs.Keys.{how_often}
use Rattle.fiber_queues.specs.Calls.{all_woken}
use Rattle.fiber_runtime.specs.declared.turning.Turning.{Turning}
use Rattle.fiber_runtime.specs.declared.turning.Raiser.{Raiser}
use Rattle.fiber_runtime.specs.declared.blocking.Why.{Why}
use Rattle.fiber_runtime.specs.declared.blocking.Why.TheVariants.{Pause, Wait}
use Rattle.bank_model.specs.Standing.{words_in, SameFrom}
use Rattle.fiber_runtime.specs.State.{State, ReachesBase, kept_of}

-- a key joins the list for why it blocks
abbrev pub joined : Why → ℕ → ℕ → ListsOf ℕ → ListsOf ℕ
joined (Pause n) now key q = record q { sleepers = q.sleepers ++ (wake_time now n, key) ∷ [] }
joined (Wait e) now key q = record q { waiters = q.waiters ++ (e, key) ∷ [] }

-- a record more, at a free key
pub record Claims (old new : Slab Kept) (key : ℕ) (k : Kept) : Type 0 where
  pub free : get old key ≡ None
  pub updates : Updates old new key (Some k)
  pub live : slab_len new ≡ slab_len old + 1
  pub room : slab_len old < seat_limit

-- The running fiber blocks: its record holds the registers, the base and these words, and it waits for why it blocks.
pub record BlocksWith (words : List ℕ) (key : ℕ) (t : Turning) (why : Why) (now : ℕ) (old new : State) : Type 0 where
  pub updates : Updates old.pool new.pool key (Some (record (kept_of old.machine t) { words = words }))
  pub live : slab_len new.pool ≡ slab_len old.pool
  pub rest : new ≡ record old { pool = new.pool; running = None; lists = joined why now key old.lists }

-- It is copied out: the words are those from SP to the base.
abbrev pub Blocked : (key : ℕ) (t : Turning) (why : Why) (now : ℕ) (old new : State) → Type 0
Blocked key t why now old new = BlocksWith (kept_of old.machine t).words key t why now old new

-- Or somebody else copies: the words in its record stay,
abbrev pub Parked : (key : ℕ) (t : Turning) (why : Why) (now : ℕ) (old new : State) → Type 0
Parked key t why now old new = BlocksWith (kept_at old.pool key).words key t why now old new

-- and are put there behind it; the record at a key has these words, and all else stays.
pub record HasWords (key : ℕ) (words : List ℕ) (old new : Slab Kept) : Type 0 where
  pub updates : (k : Kept) → get old key ≡ Some k → Updates old new key (Some (record k { words = words }))
  pub live : slab_len new ≡ slab_len old

-- The words that are kept stand in the stack region, from SP to the base, and all others stay.
pub record Put (k : Kept) (old new : List ℕ) : Type 0 where
  pub words : words_in new k.registers.sp k.base ≡ k.words
  pub below : take (place stack_at k.registers.sp) new ≡ take (place stack_at k.registers.sp) old
  pub above : 0 < length k.words → SameFrom k.base old new
  pub size : length new ≡ length old

-- So does all that is kept in the machine.
pub record Holds (k : Kept) (old new : Machine) : Type 0 where
  pub put : Put k old.memory.stack new.memory.stack
  pub rest : new
      ≡ record { registers = k.registers; memory = record old.memory { base = k.base; stack = new.memory.stack } }

abbrev pub turning_of : ℕ → Kept → Turning
turning_of key k = record { key = Some key; value = k.value; listener = k.listener }

-- The first ready fiber, of which this is kept, runs; the machine is told apart.
pub record RunsNext (key : ℕ) (kept : Kept) (old new : State) : Type 0 where
  pub first : old.lists ≡ record new.lists { ready = key ∷ new.lists.ready }
  pub found : get old.pool key ≡ Some kept
  pub rest : new ≡ record old { machine = new.machine; running = Some (turning_of key kept); lists = new.lists }

-- It is copied in.
pub record Resumed (old new : State) : Type 0 where
  pub key : ℕ
  pub kept : Kept
  pub next : RunsNext key kept old new
  pub fits : ReachesBase kept
  pub holds : Holds kept old.machine new.machine

-- Or somebody else copies: the first ready fiber's registers and base are put into the machine, and the stack region stays.
pub record Taken (old new : State) : Type 0 where
  pub key : ℕ
  pub kept : Kept
  pub next : RunsNext key kept old new
  pub machine : new.machine
      ≡ record { registers = kept.registers; memory = record old.machine.memory { base = kept.base } }

-- A fiber begins with an empty record, as the last ready one.
abbrev pub fresh : List ℕ → ℕ → ℕ → Kept
fresh flash base entry = record unused { registers = begun base (return_of flash) entry; base = base }

pub record Spawned (entry base : ℕ) (old new : State) : Type 0 where
  pub key : ℕ
  pub claims : Claims old.pool new.pool key (fresh old.machine.memory.flash base entry)
  pub rest : new ≡ record old { pool = new.pool; lists = record old.lists { ready = old.lists.ready ++ key ∷ [] } }

-- Nobody runs, is ready or waits, and no record is live.
pub record IsIdle (machine : Machine) (s : State) : Type 0 where
  pub empty : (key : ℕ) → get s.pool key ≡ None
  pub live : slab_len s.pool ≡ 0
  pub rest : s ≡ record { machine = machine; running = None; raisers = []; pool = s.pool; lists = no_lists }

-- Main alone has a record, and is ready.
pub record HasMain (machine : Machine) (s : State) : Type 0 where
  pub key : ℕ
  pub main : get s.pool key
      ≡ Some (fresh machine.memory.flash (base_of machine.memory.flash) (main_of machine.memory.flash))
  pub others : (other : ℕ) → other ≢ key → get s.pool other ≡ None
  pub live : slab_len s.pool ≡ 1
  pub rest : s ≡ record {
    machine = machine;
    running = None;
    raisers = [];
    pool = s.pool;
    lists = record no_lists { ready = key ∷ [] };
  }

-- The running fiber gets a record, in which nothing but its event value and listener is kept of it yet.
pub record Adopted (key : ℕ) (t : Turning) (old new : State) : Type 0 where
  pub claims : Claims old.pool new.pool key (record unused { value = t.value; listener = t.listener })
  pub rest : new ≡ record old { pool = new.pool; running = Some (record t { key = Some key }) }

-- The running fiber's record is free.
pub record Ended (key : ℕ) (old new : State) : Type 0 where
  pub updates : Updates old.pool new.pool key None
  pub live : slab_len new.pool + 1 ≡ slab_len old.pool
  pub rest : new ≡ record old { pool = new.pool; running = None }

-- A fiber without a record begins; the stack region stays.
abbrev pub machine_started : ℕ → ℕ → Machine → Machine
machine_started entry base m =
    record { registers = begun base (return_of m.memory.flash) entry; memory = record m.memory { base = base } }

abbrev pub started : ℕ → ℕ → Turning → State → State
started entry base t s = record s { machine = machine_started entry base s.machine; running = Some t }

-- The running fiber begins again, at its own base and with another event's value; its record and its listener stay.
abbrev pub restarted : ℕ → Turning → State → State
restarted entry t s = started entry s.machine.memory.base t s

-- The running fiber is suspended on its live frames.
abbrev pub raiser_of : Machine → Turning → Raiser
raiser_of m t = record { registers = m.registers; base = m.memory.base; turning = t }

abbrev pub suspended : Turning → State → State
suspended t s = record s { running = None; raisers = raiser_of s.machine t ∷ s.raisers }

-- The innermost raiser goes on.
abbrev pub reinstated : Raiser → List Raiser → State → State
reinstated r rs s = record s {
  machine = record { registers = r.registers; memory = record s.machine.memory { base = r.base } };
  running = Some r.turning;
  raisers = rs;
}

pub record Reinstated (old new : State) : Type 0 where
  pub first : Raiser
  pub others : List Raiser
  pub was : old.raisers ≡ first ∷ others
  pub rest : new ≡ reinstated first others old

-- The waiters who hear the event become ready, and its value is theirs.
pub record Woken (e : Event) (old new : State) : Type 0 where
  pub changed : (key : ℕ) (k : Kept) → get old.pool key ≡ Some k
      → 1 ≤ how_often key (chosen (hears e) old.lists.waiters) → get new.pool key ≡ Some (record k { value = e.value })
  pub others : (key : ℕ) → how_often key (chosen (hears e) old.lists.waiters) ≡ 0 → get new.pool key ≡ get old.pool key
  pub live : slab_len new.pool ≡ slab_len old.pool
  pub rest : new ≡ record old { pool = new.pool; lists = all_woken e old.lists }
