-- The run of a mounted image, a part of it, and an act between two parts.
use Rattle.std.specs.Prelude.{◌≡◌, ℕ, ◌<◌, ◌≤◌, ◌⊎◌, List, [], ◌++◌, Option, Some, None, Result, Ok, Err, true, false, IsSome}
use Rattle.std.specs.Option.{option_map}
use Rattle.sts_base.specs.Faults.{Rose}
use Rattle.board_world.specs.Observations.{End as RunEnd, Quietly, By_script, Panicked, Faulted}
use Rattle.board_world.specs.Transcript.{closing_line}
use Rattle.board_world.specs.Board.{Board, over, transcript_of, Act, Unplug}
use Rattle.board_world.specs.Activities.{World}
use Rattle.bank_model.specs.Fibers.{Fiber, Shared}
use Rattle.bank_model.specs.BoardMachine.{bank_start, bank_run}
use Rattle.armv6m_machine.specs.Answers.{number_of}
use Rattle.tool_io.specs.Putting.{Took, Puts}
use Rattle.tool_io.specs.declared.sink.PutFailed.{PutFailed}
use Rattle.event_script.specs.World.{world_entries}
use Rattle.event_script.specs.declared.script.Script.{Script as EventScript}
use Rattle.board_outside.specs.Moves.{Move, HasMet}
use Rattle.board_outside.specs.Ports.{DevicesAfter}
use Rattle.board_outside.specs.Cuts.{Stopped}
use Rattle.board_ports.specs.Account.{Account}
use Rattle.board_world.specs.Runs.{acts}
use Rattle.board_run.specs.declared.engine.Engine.{Engine}
use Rattle.board_run.specs.declared.end.End.{End}
use Rattle.board_run.specs.declared.end.End.TheVariants.{Quiet, Script, Panic, Budget, Fault, SinkFault}
use Rattle.board_run.specs.declared.end.Stop.{Stop}
use Rattle.board_run.specs.declared.end.Stop.TheVariants.{Quiet as StopQuiet, Script as StopScript, Panic as StopPanic, Fault as StopFault}
use Rattle.board_run.specs.Represents.{Represents, state_of, end_of, BoardState}
use Rattle.board_run.specs.Outside.{Outside, OverSink, around}
use Rattle.board_run.specs.Advancing.{IsWhole, HasExecuted, Fails, of_run}

-- the bank machine's world after so many instructions of an image, on a script, with these free words
abbrev pub world_after : List ℕ → EventScript → List ℕ → ℕ → World Fiber Shared
world_after image script free n = bank_run image script.end (world_entries script.entries) free n

-- A board that has this image and script, and has done nothing yet: whatever the free words are, it shows the bank machine as a run begins.
pub record IsMounted (image : List ℕ) (script : EventScript) (e : Engine) : Type 0 where
  pub whole : IsWhole e 0
  pub begins : (free : List ℕ)
      → Represents image (state_of e) (bank_start image script.end (world_entries script.entries) free)

-- So many instructions are executed of at most a budget: the run is over after them and wasn't over before, or they are the whole budget.
pub record IsExecuted (at : ℕ → World Fiber Shared) (budget executed : ℕ) : Type 0 where
  pub within : executed ≤ budget
  pub not_before : (n : ℕ) → n < executed → over (at n).board ≡ false
  pub done : (executed ≡ budget) ⊎ (over (at executed).board ≡ true)

-- A course of worlds has one for each list of free words and each number of instructions executed. The board shows the one behind its own
-- instructions, whatever stands behind the free words that were used; the sink has taken the transcript of that world, the devices have met what
-- it has met, and the run ended so, or not yet.
pub record HasRun {B : Type 0} (account : B → Account) (image : List ℕ) (course : List ℕ → ℕ → World Fiber Shared)
    (budget : ℕ) (old : Outside B) (new : OverSink B) (end : Option RunEnd) : Type 0 where
  pub used : List ℕ
  pub moves : List Move
  pub is_executed : (rest : List ℕ) → IsExecuted (course (used ++ rest)) budget new.board.instructions
  pub shows : (rest : List ℕ)
      → Represents image (state_of new.board.engine) (course (used ++ rest) new.board.instructions)
  pub met : (rest : List ℕ) → HasMet moves (course (used ++ rest) new.board.instructions).board
  pub ended : (rest : List ℕ) → (course (used ++ rest) new.board.instructions).board.end ≡ end
  pub written : (rest : List ℕ)
      → Took old.taken new.taken (transcript_of (course (used ++ rest) new.board.instructions).board)
  pub devices : DevicesAfter account moves old.places new.board.plugs.places

-- The sink stopped a run along such a course: one cut of what it meets within the budget is where the sink and the devices stand.
pub record IsCut {B : Type 0} (account : B → Account) (course : List ℕ → ℕ → World Fiber Shared) (budget : ℕ)
    (old new : Outside B) : Type 0 where
  pub free : List ℕ
  pub executed : ℕ
  pub moves : List Move
  pub is_executed : IsExecuted (course free) budget executed
  pub met : HasMet moves (course free executed).board
  pub stopped : (let b : Board = (course free executed).board in
      Stopped account [] moves (closing_line b.clock b.end) old.taken new.taken old.places new.places)

-- the answer that tells how a run ended by itself, or that its budget ended first
abbrev pub told : Option Stop → End
told None = Budget
told (Some StopQuiet) = Quiet
told (Some StopScript) = Script
told (Some (StopPanic code)) = Panic code
told (Some (StopFault fault address)) = Fault fault address

-- the answer where the closing line was put so
abbrev pub answer_of : Result (Unit {0}) PutFailed → Option Stop → End
answer_of (Ok done) end = told end
answer_of (Err why) end = SinkFault

-- The closing line of a board was put, and the answer is this.
abbrev pub Finishes : {B : Type 0} → OverSink B → OverSink B → End → Type 0
Finishes old new answer = (let e : Engine = old.board.engine in
    (put : Result (Unit {0}) PutFailed) × Puts old.taken new.taken old.faults new.faults
    (closing_line e.clock (option_map end_of e.end)) put × (answer ≡ answer_of put e.end))

-- How a run ended that its sink didn't stop; nothing where its budget ended first.
abbrev pub end_told : End → Option RunEnd
end_told Quiet = Some Quietly
end_told Script = Some By_script
end_told (Panic code) = Some (Panicked code)
end_told (Fault fault address) = Some (Faulted (number_of fault) address)
end_told _ = None

-- What a call that ran a board along a course answered: that the sink stopped it, where the count of its faults rose, or how the run ended.
abbrev pub Ran : {B : Type 0} → (B → Account) → List ℕ → (List ℕ → ℕ → World Fiber Shared) → ℕ → Outside B → OverSink B
    → End → Type 0
Ran account image course budget old new SinkFault =
    IsCut account course budget old (around new) × Rose old.faults new.faults
Ran account image course budget old new answer = HasRun account image course budget old new (end_told answer)

-- The run is over after so many instructions of the part, and its closing line was put.
pub record Closed {B : Type 0} (account : B → Account) (most : ℕ) (old new : OverSink B) (answer : End) : Type 0 where
  pub count : ℕ
  pub mid : Option (List ℕ)  -- what the sink had taken before the closing line, and how often it had failed
  pub fault : ℕ
  pub executed : HasExecuted account count most old (record new { taken = mid; faults = fault })
  pub ended : IsSome new.board.engine.end
  pub later : old.faults ≤ fault
  pub finishes : Finishes (record new { taken = mid; faults = fault }) new answer

-- What a part answers: nothing where all its instructions were executed and the run isn't over; an end where the run is over; or the sink
-- failed in the line of an observation.
abbrev pub Parted : {B : Type 0} → (B → Account) → ℕ → OverSink B → OverSink B → Option End → Type 0
Parted account most old new None = HasExecuted account most most old new × (new.board.engine.end ≡ None)
Parted account most old new (Some answer) =
    Closed account most old new answer
    ⊎ (Fails account of_run most old new × (answer ≡ SinkFault) × Rose old.faults new.faults)

-- an act that arrives is no unplug
abbrev pub MayArrive : Act → Type 0
MayArrive (Unplug port) = ⊥
MayArrive _ = Unit {0}

-- The board shows what an act makes of each world that it showed.
abbrev pub Arrives : Act → BoardState → BoardState → Type 0
Arrives act old new =
    (image : List ℕ) (w : World Fiber Shared) → Represents image old w → Represents image new (acts act w)
