-- What the running fiber's turn makes of a board, and the turn of one that blocks.
use Rattle.std.specs.Prelude.{◌≡◌, ℕ, Bool, List, Some, ◌+◌, ◌≤◌, [], length}
use Rattle.board_world.specs.Observations.{End}
use Rattle.board_world.specs.Kinds.{Turn, Pauses, Waits}
use Rattle.board_world.specs.Activities.{World}
use Rattle.board_world.specs.World.{acted, stops}
use Rattle.bank_model.specs.Fibers.{Fiber, Shared}
use Rattle.bank_model.specs.Standing.{fiber_on}
use Rattle.bank_model.specs.BoardMachine.{fibers}
use Rattle.fiber_runtime.specs.declared.turning.Turning.{Turning}
use Rattle.board_outside.specs.Moves.{Move, Meets}
use Rattle.board_outside.specs.Outputs.{moves_of}
use Rattle.fiber_runtime.specs.declared.blocking.Why.{Why}
use Rattle.fiber_runtime.specs.declared.blocking.Why.TheVariants.{Pause, Wait}
use Rattle.fiber_pool.specs.Kept.{kept_at}
use Rattle.fiber_queues.specs.Lists.{Leads}
use Rattle.fiber_runtime.specs.Moves.{Blocked}
use Rattle.thumb_switch.specs.Routine.{routine_steps}
use Rattle.thumb_switch.specs.Switching.{count_behind, depth}
use Rattle.board_run.specs.Shown.{acting, IsSpent}
use Rattle.board_run.specs.Represents.{BoardState, Represents, behind, state_of, end_of}
use Rattle.board_run.specs.declared.engine.Engine.{Engine}
use Rattle.board_run.specs.declared.engine.Served.{Served}
use Rattle.board_run.specs.declared.engine.Served.TheVariants.{Goes, Stops}

-- The world behind a turn of the running fiber, t, which the world has as its first activity, marked so.
abbrev pub turned : List ℕ → (Fiber → Shared → Turn Fiber Shared) → BoardState → Turning → Bool → World Fiber Shared
    → World Fiber Shared
turned image turn b t mark w =
    acted (fibers image) (acting (fiber_on b.runtime.machine) t mark) (behind image b) w
    (turn (fiber_on b.runtime.machine) w.shared)

-- The new board shows what the running fiber's turn makes of each world that the old one shows. The run isn't over, these moves were met,
-- and no free word was used.
abbrev pub Acts : List ℕ → (Fiber → Shared → Turn Fiber Shared) → List Move → BoardState → BoardState → Type 0
Acts image turn moves old new =
    (t : Turning) → old.runtime.running ≡ Some t → (w : World Fiber Shared) (h : Represents image old w)
    → (let v = turned image turn old t h.mark w in
    Represents image new v × (v.board.end ≡ w.board.end) × (v.shared.free ≡ w.shared.free)
    × Meets moves w.board v.board)

-- The running fiber's turn ends the run so, in each world that the board shows, and changes nothing else.
abbrev pub StopsAt : List ℕ → (Fiber → Shared → Turn Fiber Shared) → End → BoardState → Type 0
StopsAt image turn end b =
    (t : Turning) → b.runtime.running ≡ Some t → (w : World Fiber Shared) (h : Represents image b w)
    → turned image turn b t h.mark w ≡ stops end w

-- The board does the turn of the running fiber, or the turn ends the run so and the board has done nothing.
abbrev pub IsServed : (List ℕ → Fiber → Shared → Turn Fiber Shared) → Served → Engine → Engine → Type 0
IsServed turn (Goes output) old new =
    (image : List ℕ)
    → Acts image (turn image) (moves_of old.runtime.machine.memory.flash old.clock output) (state_of old) (state_of new)
IsServed turn (Stops stop) old new =
    (new ≡ old) × ((image : List ℕ) → StopsAt image (turn image) (end_of stop) (state_of old))

-- No instruction changes the clock or the script, and what is counted grows by little.
pub record Steps (old new : Engine) : Type 0 where
  pub clock : new.clock ≡ old.clock
  pub script : new.script ≡ old.script
  pub next : new.next ≡ old.next
  pub spawned : new.counts.spawned ≤ old.counts.spawned + 1
  pub blocked : new.counts.blocked ≤ old.counts.blocked + 1
  pub words : new.counts.words ≤ old.counts.words + 1024

-- A part of an instruction doesn't end the run either.
pub record Keeps (old new : Engine) : Type 0 where
  pub steps : Steps old new
  pub end : new.end ≡ old.end

abbrev pub blocks_for : Why → Fiber → Shared → Turn Fiber Shared
blocks_for (Pause n) f s = Pauses n f s
blocks_for (Wait e) f s = Waits e f s

-- The running fiber is copied into its record, and so many words more are counted.
pub record Rests (key : ℕ) (t : Turning) (why : Why) (old new : Engine) : Type 0 where
  pub blocked : Blocked key t why old.clock old.runtime new.runtime
  pub rest : new ≡ record old {
    runtime = new.runtime;
    switch = new.switch;
    counts = record old.counts { words = old.counts.words + length (fiber_on old.runtime.machine).bank };
  }

-- the switch's count behind the routine's instructions for so many words
abbrev pub copied_behind : ℕ → Engine → ℕ
copied_behind words e = count_behind e.switch (routine_steps words)

-- The switch copied the running fiber's words, unless the turn ends the run.
abbrev pub IsCopiedOut : Served → Engine → Engine → Type 0
IsCopiedOut (Goes output) old new = new.switch ≡ copied_behind (depth old.runtime.machine) old
IsCopiedOut (Stops stop) old new = new.switch ≡ old.switch

-- Nobody but a fiber that stands in a record is next: no handler is to begin, and none is suspended.
abbrev pub IsFromRecord : Engine → Type 0
IsFromRecord e = IsSpent e.places × (e.runtime.raisers ≡ [])

-- Where the next fiber comes from a record, the switch copied that record's words; else it stands.
pub record IsCopiedIn (old new : Engine) : Type 0 where
  pub copied : (key : ℕ) → IsFromRecord old → Leads key old.runtime.lists.ready
      → new.switch ≡ copied_behind (length (kept_at old.runtime.pool key).words) old
  pub stands : (IsFromRecord old → ⊥) → new.switch ≡ old.switch
