-- The run of an image.
use Rattle.std.specs.Prelude.{◌≡◌, ℕ, List, Option}
use Rattle.sts_base.specs.Faults.{Rose}
use Rattle.board_world.specs.Observations.{End as RunEnd}
use Rattle.board_world.specs.Board.{Board, transcript_of}
use Rattle.tool_io.specs.Putting.{Took}
use Rattle.event_script.specs.declared.script.Script.{Script as EventScript}
use Rattle.board_outside.specs.Moves.{Move, HasMet}
use Rattle.board_outside.specs.Ports.{DevicesAfter}
use Rattle.board_run.specs.declared.board.Stats.{Stats}
use Rattle.board_run.specs.declared.end.End.{End}
use Rattle.board_run.specs.declared.end.End.TheVariants.{SinkFault}
use Rattle.board_run.specs.Outside.{Outside}
use Rattle.board_run.specs.Ran.{world_after, IsExecuted, IsCut, end_told}
use Rattle.board_ports.specs.Account.{Account}

-- what is counted on a board of the world, after so many instructions
abbrev pub counted_on : Board → ℕ → Stats
counted_on b executed =
    record { spawned = b.spawned; blocked = b.blocked; words = b.words; seats = b.most; instructions = executed }

-- For some list of free words, the run of an image after the instructions executed ended so, or not yet; its transcript was taken, the devices met
-- what it met, and this was counted.
pub record RunsTo {B : Type 0} (account : B → Account) (image : List ℕ) (script : EventScript) (budget : ℕ)
    (old new : Outside B) (end : Option RunEnd) (stats : Stats) : Type 0 where
  pub free : List ℕ
  pub executed : ℕ
  pub moves : List Move
  pub is_executed : IsExecuted (world_after image script free) budget executed
  pub met : HasMet moves (world_after image script free executed).board
  pub ended : (world_after image script free executed).board.end ≡ end
  pub written : Took old.taken new.taken (transcript_of (world_after image script free executed).board)
  pub devices : DevicesAfter account moves old.places new.places
  pub counted : stats ≡ counted_on (world_after image script free executed).board executed

-- What a call that ran an image answered: its end, or that the sink failed, where one cut of the run is where the sink and the devices stand.
abbrev pub RunsImage : {B : Type 0} → (B → Account) → List ℕ → EventScript → ℕ → Outside B → Outside B → End → Stats
    → Type 0
RunsImage account image script budget old new SinkFault stats =
    IsCut account (world_after image script) budget old new × Rose old.faults new.faults
RunsImage account image script budget old new answer stats =
    RunsTo account image script budget old new (end_told answer) stats
