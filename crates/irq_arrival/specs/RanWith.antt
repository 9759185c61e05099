-- What a run of a mounted board with arrivals leaves.
use Rattle.std.specs.Prelude.{ℕ, List, [], Option}
use Rattle.board_world.specs.Runs.{Arrival}
use Rattle.event_script.specs.World.{world_entries}
use Rattle.event_script.specs.declared.script.Script.{Script as EventScript}
use Rattle.board_ports.specs.Account.{Account}
use Rattle.board_ports.specs.History.{FollowsMoves}
use Rattle.board_run.specs.declared.end.End.{End}
use Rattle.board_run.specs.Outside.{OverSink, around}
use Rattle.board_run.specs.Ran.{IsMounted, Ran}
use Rattle.irq_arrival.specs.Along.{world_with}

-- What a call answered that ran a mounted board with these arrivals: for each image and script that it was mounted with, and the devices that it was
-- given, the board ran along the worlds of that run with these arrivals.
abbrev pub RanWith : {B : Type 0} → (B → Account) → List Arrival → ℕ → OverSink B → OverSink B → End → Type 0
RanWith {B} account arrivals budget old new answer =
    (image : List ℕ) (script : EventScript) (places : List (Option B)) → IsMounted image script old.board.engine
    → FollowsMoves account [] places old.board.plugs
    → Ran account image (world_with image script.end (world_entries script.entries) arrivals) budget
    (record (around old) { places = places }) new answer
