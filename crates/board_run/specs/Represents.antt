-- A board shows a bank world.
use Rattle.std.specs.Prelude.{◌≡◌, ℕ, Bool, List, [], ◌++◌, length, map, None, IfSome, IsSome, ◌+◌, ◌*◌, if◌then◌else◌, drop}
use Rattle.slab.specs.Slab.{slab_len}
use Rattle.board_world.specs.Board.{Board, over, Entry}
use Rattle.board_world.specs.Activities.{Activity, World}
use Rattle.bank_model.specs.Fibers.{Fiber, Shared}
use Rattle.fiber_queues.specs.Calls.{keyed}
use Rattle.message_bus.specs.BusState.{BusState}
use Rattle.message_bus.specs.Agreement.{Agrees, hearings}
use Rattle.fiber_runtime.specs.declared.turning.Turning.{Turning}
use Rattle.fiber_runtime.specs.declared.turning.Raiser.{Raiser}
use Rattle.fiber_runtime.specs.State.{State}
use Rattle.fiber_runtime.specs.Sound.{IsSound, IsStanding}
use Rattle.board_run.specs.Shown.{PendingDispatch, ArePlaces, IsSpent, running_of, of_key, standing}
use Rattle.std.specs.Option.{option_map}
use Rattle.std.specs.List.{AllByRecursion}
use Rattle.board_world.specs.Observations.{End, Quietly, By_script, Panicked, Faulted}
use Rattle.armv6m_machine.specs.Answers.{number_of}
use Rattle.event_script.specs.World.{world_entries}
use Rattle.board_run.specs.declared.end.Stop.{Stop}
use Rattle.board_run.specs.declared.end.Stop.TheVariants.{Quiet, Script, Panic, Fault}
use Rattle.board_run.specs.declared.engine.Engine.{Engine}

-- What a contract sees of a board. What was seen and unplugged stands in the sink and at the ports, so the plain part has none of it.
pub record BoardState : Type 0 where
  pub runtime : State
  pub bus : BusState
  pub places : List PendingDispatch  -- the innermost first
  pub plain : Board

-- who is no handler has a record
abbrev pub IsRecorded : Turning → Type 0
IsRecorded t = t.listener ≡ None → IsSome t.key

-- those behind the running fiber: handlers that haven't begun and raisers, then the ready keys' fibers
abbrev pub behind : List ℕ → BoardState → List (Activity Fiber)
behind image b =
    standing image (hearings b.bus.listeners) b.runtime.machine.memory.stack b.runtime.raisers b.places
    ++ map (of_key b.runtime.pool) b.runtime.lists.ready

-- The board shows this world of the bank machine over an image: one machine, records, lists, a bus and dispatch places in place of a
-- fiber with a bank of its own for each activity.
pub record Represents (image : List ℕ) (b : BoardState) (w : World Fiber Shared) : Type 0 where
  pub sound : IsSound b.runtime
  pub stands : IsStanding b.runtime.running b.runtime.machine b.runtime.raisers
  pub runner : IfSome b.runtime.running IsRecorded
  pub nested : AllByRecursion (λ (r : Raiser). IsRecorded r.turning) b.runtime.raisers
  pub stack : length b.runtime.machine.memory.stack ≡ 1024
  pub places : ArePlaces (length b.bus.listeners) b.runtime.raisers b.places
  pub flash : b.runtime.machine.memory.flash ≡ image
  pub globals : w.shared.globals ≡ b.runtime.machine.memory.globals
  pub arena : w.shared.arena ≡ b.runtime.machine.memory.arena
  pub used : w.shared.used ≡ b.plain.used
  pub board : w.board ≡ record b.plain { seen = w.board.seen; unplugged = w.board.unplugged }
  pub seats : b.plain.seats ≡ slab_len b.runtime.pool
  pub hears : Agrees b.bus w
  pub mark : Bool  -- nothing heeds whether the first activity was suspended
  pub ready : w.ready ≡ running_of b.runtime.running b.runtime.machine mark ++ behind image b
  pub sleepers : w.sleepers ≡ keyed (of_key b.runtime.pool) b.runtime.lists.sleepers
  pub waiters : w.waiters ≡ keyed (of_key b.runtime.pool) b.runtime.lists.waiters

-- The board shows some world: what each call of a board may rest on, and leaves.
pub record IsShown (b : BoardState) : Type 0 where
  pub world : World Fiber Shared
  pub shows : Represents b.runtime.machine.memory.flash b world

-- Nobody runs, is suspended, is ready, or is to begin.
pub record IsEmpty (b : BoardState) : Type 0 where
  pub running : b.runtime.running ≡ None
  pub raisers : b.runtime.raisers ≡ []
  pub spent : IsSpent b.places
  pub ready : b.runtime.lists.ready ≡ []

-- Each idle move makes this less: a dispatch takes an event, a moment wakes a sleeper or applies an entry, which raises two at most, and else
-- the run ends.
abbrev pub moves_left : BoardState → ℕ
moves_left b =
    length b.bus.queue + 3 * length b.plain.script + length b.runtime.lists.sleepers + (if over b.plain then 0 else 1)

-- how a run ends by itself, as the world says it
abbrev pub end_of : Stop → End
end_of Quiet = Quietly
end_of Script = By_script
end_of (Panic code) = Panicked code
end_of (Fault fault address) = Faulted (number_of fault) address

-- the entries of the script that are left
abbrev pub entries_left : Engine → List Entry
entries_left e = world_entries (drop e.next e.script.entries)

-- the plain part: what was seen and unplugged isn't kept
abbrev pub plain_of : Engine → Board
plain_of e = record {
  clock = e.clock;
  queue = e.bus.queue;
  a_since = e.buttons.a_since;
  b_since = e.buttons.b_since;
  frame = e.display;
  script = entries_left e;
  until = e.script.end;
  seen = [];
  unplugged = [];
  used = e.arena;
  seats = slab_len e.runtime.pool;
  spawned = e.counts.spawned;
  blocked = e.counts.blocked;
  words = e.counts.words;
  most = e.counts.most;
  end = option_map end_of e.end;
}

abbrev pub state_of : Engine → BoardState
state_of e = record { runtime = e.runtime; bus = e.bus; places = e.places; plain = plain_of e }
