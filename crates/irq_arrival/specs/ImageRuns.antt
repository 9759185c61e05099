-- The run of an image with arrivals.
use Rattle.std.specs.Prelude.{◌≡◌, ℕ, List, Option}
use Rattle.sts_base.specs.Faults.{Rose}
use Rattle.board_world.specs.Observations.{End as RunEnd}
use Rattle.board_world.specs.Board.{transcript_of}
use Rattle.board_world.specs.Activities.{World}
use Rattle.board_world.specs.Runs.{Arrival}
use Rattle.bank_model.specs.Fibers.{Fiber, Shared}
use Rattle.tool_io.specs.Putting.{Took}
use Rattle.event_script.specs.World.{world_entries}
use Rattle.event_script.specs.declared.script.Script.{Script as EventScript}
use Rattle.board_outside.specs.Moves.{Move, HasMet}
use Rattle.board_outside.specs.Ports.{DevicesAfter}
use Rattle.board_run.specs.declared.end.End.{End}
use Rattle.board_run.specs.declared.end.End.TheVariants.{SinkFault}
use Rattle.board_run.specs.Outside.{Outside}
use Rattle.board_run.specs.Ran.{IsExecuted, IsCut, end_told}
use Rattle.irq_arrival.specs.Along.{world_with}
use Rattle.board_ports.specs.Account.{Account}

-- the worlds of an image's run on a script, with these arrivals
abbrev pub world_at : List ℕ → EventScript → List Arrival → List ℕ → ℕ → World Fiber Shared
world_at image script arrivals = world_with image script.end (world_entries script.entries) arrivals

-- For some list of free words, the run of an image with arrivals after the instructions executed ended so, or not yet; its transcript was taken, and
-- the devices met what it met.
pub record RunsToAt {B : Type 0} (account : B → Account) (image : List ℕ) (script : EventScript)
    (arrivals : List Arrival) (budget : ℕ) (old new : Outside B) (end : Option RunEnd) : Type 0 where
  pub free : List ℕ
  pub executed : ℕ
  pub moves : List Move
  pub is_executed : IsExecuted (world_at image script arrivals free) budget executed
  pub met : HasMet moves (world_at image script arrivals free executed).board
  pub ended : (world_at image script arrivals free executed).board.end ≡ end
  pub written : Took old.taken new.taken (transcript_of (world_at image script arrivals free executed).board)
  pub devices : DevicesAfter account moves old.places new.places

-- What a call that ran an image with arrivals answered: its end, or that the sink failed, where one cut of the run is where the sink and the devices stand.
abbrev pub RunsImageAt : {B : Type 0} → (B → Account) → List ℕ → EventScript → List Arrival → ℕ → Outside B → Outside B
    → End → Type 0
RunsImageAt account image script arrivals budget old new SinkFault =
    IsCut account (world_at image script arrivals) budget old new × Rose old.faults new.faults
RunsImageAt account image script arrivals budget old new answer =
    RunsToAt account image script arrivals budget old new (end_told answer)
