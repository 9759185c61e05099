-- A board that goes through a moment, and what it answers.
use Rattle.std.specs.Prelude.{◌≡◌, ℕ, ◌<◌, List, [], ◌∷◌, ◌++◌, Option, None, ◌+◌, ◌≤◌, ◌⊎◌, ℤ, Some, IfSome, IsSome, false}
use Rattle.std.specs.Option.{option_map}
use Rattle.board_world.specs.declared.events.Event.{Event}
use Rattle.board_world.specs.declared.clock.Idle.TheVariants.{Jump}
use Rattle.board_world.specs.Observations.{Observation, ByteList}
use Rattle.board_world.specs.Rules.{earlier, clock_move}
use Rattle.board_world.specs.Board.{next_entry}
use Rattle.board_world.specs.Waiting.{least}
use Rattle.board_world.specs.Activities.{World}
use Rattle.board_world.specs.World.{jump}
use Rattle.bank_model.specs.Fibers.{Fiber, Shared}
use Rattle.bank_model.specs.BoardMachine.{fibers}
use Rattle.class_world.specs.Hearing.{with_heard, raised_at}
use Rattle.class_world.specs.Keeping.{with_kept, moment_run}
use Rattle.message_bus.specs.BusState.{queued}
use Rattle.board_ports.specs.Account.{Account}
use Rattle.board_ports.specs.Plugged.{Plugged}
use Rattle.board_outside.specs.Moves.{Move, HasMet, Meets, seen_of}
use Rattle.sts_base.specs.Faults.{Rose}
use Rattle.board_world.specs.Transcript.{line, closing_line}
use Rattle.board_world.specs.Before.{is_by_clock}
use Rattle.tool_io.specs.Putting.{Took}
use Rattle.event_script.specs.declared.script.Script.{Script as EventScript}
use Rattle.board_outside.specs.Cuts.{TookInto}
use Rattle.board_run.specs.declared.engine.Engine.{Engine}
use Rattle.board_run.specs.Represents.{BoardState, Represents, IsEmpty, state_of, entries_left, end_of}
use Rattle.board_run.specs.Outside.{PortsMeet, OverSink}
use Rattle.board_run.specs.Advancing.{IsBusy, IsWhole, led_lines, first_sent}
use Rattle.board_run.specs.declared.board.Board.{Board}
use Rattle.board_run.specs.declared.end.End.TheVariants.{Panic, Budget, Fault, SinkFault}
use Rattle.board_run.specs.declared.end.Stop.{Stop}
use Rattle.board_run.specs.declared.end.Stop.TheVariants.{Panic as StopPanic, Fault as StopFault}
use Rattle.board_run.specs.declared.moments.Gone.{Gone}
use Rattle.board_run.specs.declared.moments.Gone.TheVariants.{Idle, Ended}
use Rattle.board_run.specs.Ran.{IsMounted}

-- all join the queue
abbrev pub queued_all : List Event → List Event → List Event
queued_all [] q = q
queued_all (e ∷ es) q = queued_all es (queued e q)

-- when the next sleeper wakes or the next entry comes
abbrev pub next_moment : Engine → Option ℕ
next_moment e = earlier (least e.runtime.lists.sleepers) (next_entry (entries_left e))

-- The next moment at which something comes, with these events, is this one.
abbrev pub IsDueAt : ℕ → List Event → Engine → Type 0
IsDueAt t events e =
    clock_move (least e.runtime.lists.sleepers)
    (next_entry (with_heard (raised_at t events) (entries_left e))) e.script.end ≡ Jump t

-- Nobody is left to go on and no event is queued, and the run isn't over.
pub record IsResting (e : Engine) : Type 0 where
  pub goes : e.end ≡ None
  pub empty : IsEmpty (state_of e)
  pub quiet : e.bus.queue ≡ []

-- The clock came to a moment, with these events.
pub record CameTo {B : Type 0} (account : B → Account) (t : ℕ) (events : List Event) (old new : Engine)
    (plugged plugged' : Plugged B) : Type 0 where
  pub moves : List Move
  pub silent : seen_of moves ≡ []
  pub shows : (image : List ℕ) (w : World Fiber Shared) → Represents image (state_of old) w
      → Represents image (state_of new) (jump t (with_kept t events w))
      × Meets moves w.board (jump t (with_kept t events w)).board
  pub ports : PortsMeet account moves plugged plugged'

-- The board shows these worlds, whatever free words follow, and they have met these moves.
pub record Shows (image : List ℕ) (b : BoardState) (at : List ℕ → World Fiber Shared) (moves : List Move) : Type 0 where
  pub shows : (rest : List ℕ) → Represents image b (at rest)
  pub free : b.plain.end ≡ None → (rest : List ℕ) → (at rest).shared.free ≡ rest
  pub met : (rest : List ℕ) → HasMet moves (at rest).board

-- A moment with these events, in so many instructions, before each of which somebody was ready, led from some worlds to those that a board
-- shows, in whose scripts these events are still to come.
pub record LeadsTo (image : List ℕ) (t n : ℕ) (events left : List Event) (met : List Move)
    (at : List ℕ → World Fiber Shared) (new : BoardState) : Type 0 where
  pub used : List ℕ
  pub worlds : List ℕ → World Fiber Shared
  pub shown : Shows image new worlds met
  pub is : (rest : List ℕ) → with_kept t left (worlds rest) ≡ moment_run (fibers image) t n events (at (used ++ rest))
  pub busy : (rest : List ℕ) (j : ℕ) → j < n → IsBusy (moment_run (fibers image) t j events (at (used ++ rest)))

-- The board went through a moment with these events, in so many instructions, which met these moves: it shows what the worlds that it showed
-- come to. Events are left where the run or its budget ended before they were raised.
abbrev pub Goes : List ℕ → (t n : ℕ) → (events left : List Event) → List Move → BoardState → BoardState → Type 0
Goes image t n events left moves old new =
    (at : List ℕ → World Fiber Shared) (met : List Move) → Shows image old at met
    → LeadsTo image t n events left (met ++ moves) at new

-- So many instructions of such a moment see this, whatever is behind the free words that they use.
pub record Sees (image : List ℕ) (t n : ℕ) (events : List Event) (seen : List Observation)
    (at : List ℕ → World Fiber Shared) : Type 0 where
  pub used : List ℕ
  pub saw : (rest : List ℕ)
      → (moment_run (fibers image) t n events (at (used ++ rest))).board.seen ≡ (at (used ++ rest)).board.seen ++ seen
  pub busy : (rest : List ℕ) (j : ℕ) → j < n → IsBusy (moment_run (fibers image) t j events (at (used ++ rest)))

-- Which moments a board may go through: on a board as it was mounted moment 0, with an instruction at least; and else the next moment at
-- which something comes, an event that is kept among it, where nobody is left to go on before.
abbrev pub MayGo : (moment budget : ℕ) → List Event → Engine → Type 0
MayGo moment budget kept e =
    ((image : List ℕ) × (script : EventScript) × IsMounted image script e × (moment ≡ 0) × (1 ≤ budget))
    ⊎ (IsResting e × IsDueAt moment kept e)

-- A board went through a moment in so many instructions: the sink took the lines of what they met, and then this text, and the
-- numbers that were sent stand behind these.
pub record HasGone {B : Type 0} (account : B → Account) (lead : ByteList) (numbers : List ℤ) (moment used : ℕ)
    (old new : OverSink B) (behind : ByteList) : Type 0 where
  pub moves : List Move
  pub goes : (image : List ℕ) → Goes image moment used old.board.kept new.board.kept moves (state_of old.board.engine)
      (state_of new.board.engine)
  pub ports : PortsMeet account moves old.board.plugs new.board.plugs
  pub sent : new.board.sent ≡ first_sent numbers (seen_of moves)
  pub written : Took old.taken new.taken (led_lines lead (seen_of moves) ++ behind)
  pub counted : new.board.instructions ≡ old.board.instructions + used
  pub whole : IsWhole new.board.engine new.board.instructions
  pub clock : new.board.engine.clock ≡ moment
  pub script : new.board.engine.script ≡ old.board.engine.script

-- Nobody is left to go on, no event is queued or kept, and what comes next comes later than this moment.
pub record IsIdle {B : Type 0} (moment : ℕ) (b : Board B) : Type 0 where
  pub resting : IsResting b.engine
  pub later : IfSome (next_moment b.engine) (λ t. moment < t)
  pub none : b.kept ≡ []

-- Somebody runs or the run is over, or the board is idle behind a moment.
abbrev pub GoesOnOrIdle : {B : Type 0} → ℕ → Board B → Type 0
GoesOnOrIdle moment b = (IsSome b.engine.end ⊎ IsSome b.engine.runtime.running) ⊎ IsIdle moment b

-- So many instructions of at most a budget went through a moment: the clock hasn't ended the run, and where it hasn't ended somebody runs and the
-- budget is used, or the board is idle.
pub record IsPassed {B : Type 0} (moment used budget : ℕ) (b : Board B) : Type 0 where
  pub within : used ≤ budget
  pub sound : is_by_clock (option_map end_of b.engine.end) ≡ false
  pub rests : b.engine.end ≡ None → (IsSome b.engine.runtime.running × (used ≡ budget)) ⊎ IsIdle moment b

-- The run has ended so, and the sink took the closing line behind the others.
pub record EndsBy {B : Type 0} (account : B → Account) (lead : ByteList) (moment budget : ℕ) (stop : Stop)
    (old new : OverSink B) : Type 0 where
  pub used : ℕ
  pub within : used ≤ budget
  pub ended : new.board.engine.end ≡ Some stop
  pub gone : HasGone account lead [] moment used old new (lead ++ closing_line moment (Some (end_of stop)))

-- The sink failed in the line of an observation: those before were taken whole, and the devices have met what they show.
pub record IsCutShort {B : Type 0} (account : B → Account) (lead : ByteList) (moment budget : ℕ)
    (old new : OverSink B) : Type 0 where
  pub used : ℕ
  pub within : used ≤ budget
  pub done : List Move
  pub last : Observation
  pub sees : (image : List ℕ) (at : List ℕ → World Fiber Shared) (met : List Move)
      → Shows image (state_of old.board.engine) at met
      → Sees image moment used old.board.kept (seen_of done ++ last ∷ []) at
  pub ports : PortsMeet account done old.board.plugs new.board.plugs
  pub written : TookInto old.taken new.taken (led_lines lead (seen_of done)) (lead ++ line last)

-- It failed in the closing line.
pub record IsCutLast {B : Type 0} (account : B → Account) (lead : ByteList) (moment budget : ℕ)
    (old new : OverSink B) : Type 0 where
  pub used : ℕ
  pub within : used ≤ budget
  pub stop : Stop
  pub ended : new.board.engine.end ≡ Some stop
  pub taken_before : Option (List ℕ)
  pub gone : HasGone account lead [] moment used old (record new { taken = taken_before }) []
  pub written : TookInto taken_before new.taken [] (lead ++ closing_line moment (Some (end_of stop)))

-- What a call that went through a moment answered.
abbrev pub Went : {B : Type 0} → (B → Account) → ByteList → (moment budget : ℕ) → OverSink B → OverSink B
    → Gone → Type 0
Went account lead moment budget old new (Idle used) =
    (used ≤ budget) × HasGone account lead [] moment used old new [] × IsIdle moment new.board
Went account lead moment budget old new (Ended Budget) =
    HasGone account lead [] moment budget old new [] × (new.board.engine.end ≡ None)
    × IsSome new.board.engine.runtime.running
Went account lead moment budget old new (Ended (Panic code)) =
    EndsBy account lead moment budget (StopPanic code) old new
Went account lead moment budget old new (Ended (Fault fault address)) =
    EndsBy account lead moment budget (StopFault fault address) old new
Went account lead moment budget old new (Ended SinkFault) =
    (IsCutShort account lead moment budget old new ⊎ IsCutLast account lead moment budget old new)
    × Rose old.faults new.faults
Went account lead moment budget old new _ = ⊥
