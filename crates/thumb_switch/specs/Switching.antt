-- What a switch that holds some bytes does to a runtime.
use Rattle.std.specs.Prelude.{◌≡◌, ℕ, ◌+◌, ◌-◌, ◌/◌, ◌^◌, min, List, ◌∷◌, length, Some, None}
use Rattle.slab.specs.Slab.{get, with_value, Updates, slab_len}
use Rattle.thumb_code.specs.Machine.{State as Machine}
use Rattle.fiber_pool.specs.Kept.{Kept, kept_at, sized}
use Rattle.fiber_runtime.specs.declared.turning.Turning.{Turning}
use Rattle.fiber_runtime.specs.declared.blocking.Why.{Why}
use Rattle.fiber_runtime.specs.State.{State, ReachesBase, kept_of}
use Rattle.fiber_runtime.specs.Moves.{joined, turning_of}
use Rattle.thumb_switch.specs.Space.{Space, Executed, record_at, switched}

-- how many words the running fiber has
abbrev pub depth : Machine → ℕ
depth m = (m.memory.base - m.registers.sp) / 4

-- these bytes, a stack region and a record's words as a memory
abbrev pub over : List ℕ → List ℕ → List ℕ → Space
over code stack words = record { code = code; stack = stack; words = words }

-- what the bytes make of the running fiber's words and its record's, which has as many
abbrev pub out_by : List ℕ → Machine → List ℕ → Executed
out_by code m words = switched m.registers.sp record_at (depth m) (over code m.memory.stack (sized (depth m) words))

-- what they make of a record's words and of those from its SP on
abbrev pub in_by : List ℕ → List ℕ → Kept → Executed
in_by code stack k = switched record_at k.registers.sp (length k.words) (over code stack k.words)

abbrev pub with_stack : Machine → List ℕ → Machine
with_stack m stack = record m { memory = record m.memory { stack = stack } }

-- what a contract sees of a switch
pub record Held : Type 0 where
  pub bytes : List ℕ
  pub count : ℕ  -- how many instructions were executed so far

-- a count behind so many more instructions: it stands still at its type's end
abbrev pub count_behind : ℕ → ℕ → ℕ
count_behind count steps = min (count + steps) (2 ^ 64 - 1)

-- so many more instructions were executed
abbrev pub counted : Held → ℕ → Held
counted h steps = record h { count = count_behind h.count steps }

-- The running fiber blocks: the held bytes are executed, and then its registers and base are kept and it joins a list.
pub record BlockedBy (key : ℕ) (t : Turning) (why : Why) (now : ℕ) (h h' : Held) (old new : State) : Type 0 where
  pub steps : ℕ
  pub left : Space
  pub executes : out_by h.bytes old.machine (kept_at old.pool key).words ≡ (steps, left)
  pub counts : h' ≡ counted h steps
  pub updates : Updates old.pool new.pool key (Some (record (kept_of old.machine t) { words = left.words }))
  pub live : slab_len new.pool ≡ slab_len old.pool
  pub rest : new ≡ record old {
    machine = with_stack old.machine left.stack;
    pool = new.pool;
    running = None;
    lists = joined why now key old.lists;
  }

-- The first ready fiber is resumed: its registers and base are put into the machine, and the held bytes are executed.
pub record ResumedBy (h h' : Held) (old new : State) : Type 0 where
  pub key : ℕ
  pub kept : Kept
  pub first : old.lists ≡ record new.lists { ready = key ∷ new.lists.ready }
  pub found : get old.pool key ≡ Some kept
  pub fits : ReachesBase kept
  pub steps : ℕ
  pub left : Space
  pub executes : in_by h.bytes old.machine.memory.stack kept ≡ (steps, left)
  pub counts : h' ≡ counted h steps
  pub rest : new ≡ record old {
    machine = record {
      registers = kept.registers;
      memory = record old.machine.memory { base = kept.base; stack = left.stack };
    };
    pool = with_value old.pool key (record kept { words = left.words });
    running = Some (turning_of key kept);
    lists = new.lists;
  }
