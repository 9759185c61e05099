-- The run of a program's source with arrivals, as its image ran.
use Rattle.std.specs.Prelude.{◌≡◌, ℕ, List, [], Option}
use Rattle.sts_base.specs.Faults.{Rose}
use Rattle.board_world.specs.Observations.{ByteList, End as RunEnd}
use Rattle.board_world.specs.Transcript.{closing_line}
use Rattle.board_world.specs.Board.{Board, transcript_of}
use Rattle.board_world.specs.Activities.{World}
use Rattle.board_world.specs.Runs.{Arrival}
use Rattle.board_world.specs.Implements.{EndsByNoFault}
use Rattle.sts_syntax.specs.TypedTrees.{TypedProgram}
use Rattle.sts_meaning.specs.Frames.{Activity}
use Rattle.sts_meaning.specs.Heaps.{Heap}
use Rattle.tool_io.specs.Putting.{Took}
use Rattle.event_script.specs.World.{world_entries}
use Rattle.event_script.specs.declared.script.Script.{Script as EventScript}
use Rattle.board_outside.specs.Moves.{Move, HasMet}
use Rattle.board_outside.specs.Ports.{DevicesAfter}
use Rattle.board_outside.specs.Cuts.{Stopped}
use Rattle.board_run.specs.declared.end.End.{End}
use Rattle.board_run.specs.declared.end.End.TheVariants.{Fault, SinkFault}
use Rattle.board_run.specs.Outside.{Outside}
use Rattle.board_run.specs.Ran.{end_told}
use Rattle.irq_arrival.specs.ReachesWith.{source_with, ReachesWith}
use Rattle.board_ports.specs.Account.{Account}

-- the world of a program's source after so many counted steps, on a script and with arrivals at these
abbrev pub source_at : TypedProgram → List ByteList → EventScript → List Arrival → ℕ → World Activity Heap
source_at P texts script places steps = source_with P texts script.end (world_entries script.entries) places steps

-- A run of a program's image with arrivals, for some list of free words, and what its source has met where it has come as far: after these counted steps,
-- with the arrivals at steps of its own. It hasn't ended by a fault.
pub record MeetsAt (P : TypedProgram) (texts : List ByteList) (image : List ℕ) (script : EventScript)
    (arrivals : List Arrival) (budget : ℕ) : Type 0 where
  pub free : List ℕ
  pub executed : ℕ
  pub steps : ℕ
  pub places : List Arrival
  pub moves : List Move
  pub reaches : ReachesWith P texts image script.end
      (world_entries script.entries) arrivals budget free executed steps places
  pub met : HasMet moves (source_at P texts script places steps).board
  pub faultless : EndsByNoFault (source_at P texts script places steps).board.end

-- The source has ended so, or not yet; its transcript was taken, and the devices met what it met.
pub record RunsSourceTo {B : Type 0} (account : B → Account) (P : TypedProgram) (texts : List ByteList) (image : List ℕ)
    (script : EventScript) (arrivals : List Arrival) (budget : ℕ)
    (old new : Outside B) (end : Option RunEnd) : Type 0 where
  pub meets : MeetsAt P texts image script arrivals budget
  pub ended : (source_at P texts script meets.places meets.steps).board.end ≡ end
  pub written : Took old.taken new.taken (transcript_of (source_at P texts script meets.places meets.steps).board)
  pub devices : DevicesAfter account meets.moves old.places new.places

-- The sink stopped the run: one cut of what the source meets is where the sink and the devices stand.
pub record CutsSource {B : Type 0} (account : B → Account) (P : TypedProgram) (texts : List ByteList) (image : List ℕ)
    (script : EventScript) (arrivals : List Arrival) (budget : ℕ)
    (old new : Outside B) : Type 0 where
  pub meets : MeetsAt P texts image script arrivals budget
  pub stopped : (let b : Board = (source_at P texts script meets.places meets.steps).board in
      Stopped account [] meets.moves (closing_line b.clock b.end) old.taken new.taken old.places new.places)

-- What a call that ran such an image answered; never a fault.
abbrev pub RunsSourceAt : {B : Type 0} → (B → Account) → TypedProgram → List ByteList → List ℕ → EventScript
    → List Arrival → ℕ → Outside B → Outside B → End → Type 0
RunsSourceAt account P texts image script arrivals budget old new SinkFault =
    CutsSource account P texts image script arrivals budget old new × Rose old.faults new.faults
RunsSourceAt account P texts image script arrivals budget old new (Fault fault address) = ⊥
RunsSourceAt account P texts image script arrivals budget old new answer =
    RunsSourceTo account P texts image script arrivals budget old new (end_told answer)
