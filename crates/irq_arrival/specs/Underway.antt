-- A mounted board in the course of its run with arrivals.
use Rattle.std.specs.Prelude.{◌≡◌, ◌≤◌, ◌⊎◌, ℕ, List, None}
use Rattle.board_world.specs.Transcript.{lines}
use Rattle.board_world.specs.Runs.{Arrival, Rises}
use Rattle.tool_io.specs.Putting.{Took}
use Rattle.event_script.specs.World.{world_entries}
use Rattle.event_script.specs.declared.script.Script.{Script as EventScript}
use Rattle.board_ports.specs.Account.{Account}
use Rattle.board_outside.specs.Moves.{Move, seen_of}
use Rattle.board_run.specs.Outside.{OverSink, PortsMeet}
use Rattle.board_run.specs.Advancing.{IsWhole, IsSettled}
use Rattle.board_run.specs.Represents.{state_of}
use Rattle.board_run.specs.Ran.{IsMounted}
use Rattle.irq_arrival.specs.Along.{world_with, NoneBefore, AllMay, Along}

-- A board that began as the first has executed n instructions, and these arrivals are left: for each image and script that it was mounted with
-- it is in the course of that run; the sink has taken the lines of what was met, and the devices have met it.
pub record Underway {B : Type 0} (account : B → Account) (arrivals : List Arrival) (first b : OverSink B)
    (left : List Arrival) (n : ℕ) : Type 0 where
  pub moves : List Move
  pub along : (image : List ℕ) (script : EventScript) → IsMounted image script first.board.engine
      → (used : List ℕ) × Along image
      (world_with image script.end (world_entries script.entries) arrivals) left n used moves (state_of b.board.engine)
  pub ports : PortsMeet account moves first.board.plugs b.board.plugs
  pub written : Took first.taken b.taken (lines (seen_of moves))

-- Such a board may go on: its run isn't over, nothing that is left arrives before now or at no instruction, and somebody runs as soon as a part was run.
pub record Stands {B : Type 0} (account : B → Account) (arrivals : List Arrival) (budget : ℕ) (first b : OverSink B)
    (left : List Arrival) (n : ℕ) : Type 0 where
  pub underway : Underway account arrivals first b left n
  pub whole : IsWhole b.board.engine n
  pub counted : b.board.instructions ≡ n
  pub going : b.board.engine.end ≡ None
  pub settled : ((n ≡ 0) × NoneBefore 1 left) ⊎ IsSettled b.board.engine
  pub rises : Rises n left
  pub may : AllMay left
  pub within : n ≤ budget
