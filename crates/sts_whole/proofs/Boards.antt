-- What a board's run is of its image.
use Rattle.std.proofs.Common.{◌≡◌, ℕ, List, [], ◌++◌, Option, sym, ap, ◌∙◌}
use Rattle.board_world.specs.Observations.{End as RunEnd}
use Rattle.board_world.specs.Board.{Board}
use Rattle.event_script.specs.declared.script.Script.{Script as EventScript}
use Rattle.board_run.specs.declared.board.Stats.{Stats}
use Rattle.board_run.specs.declared.engine.Engine.{Engine}
use Rattle.board_run.specs.declared.end.End.{End}
use Rattle.board_run.specs.declared.end.End.TheVariants.{Quiet, Script, Panic, Budget, Fault, SinkFault}
use Rattle.board_run.specs.Outside.{Outside, OverSink}
use Rattle.board_run.specs.Ran.{world_after, HasRun, Ran}
use Rattle.board_run.proofs.Laws.{closed_over, devices_closed, cut_closed}
use Rattle.sts_whole.specs.Runs.{counted_on, RunsTo, RunsImage}
use Rattle.board_ports.specs.Account.{Account}
use Rattle.board_ports.specs.Plugged.{SettlesAll}

abbrev counted : Engine → ℕ → Stats
counted e executed = record { spawned = e.counts.spawned; blocked = e.counts.blocked; words = e.counts.words; seats = e.counts.most; instructions = executed }

module _ {B : Type 0} (account : B → Account) (image : List ℕ) (script : EventScript) (budget : ℕ) (old : Outside B) (new : OverSink B)
    (stats : Stats) (is : stats ≡ counted new.board.engine new.board.instructions) (settled : B → Type 0) (places : List (Option B))
    (closes : SettlesAll settled account new.board.plugs places) where
  runs_to : (end : Option RunEnd) → HasRun account image (world_after image script) budget old new end → RunsTo account image script budget old (closed_over new places) end stats
  runs_to end h =
      let free = h.used ++ [] in
      let executed = new.board.instructions in
      let board = (h.shows []).board in
      record {
        free = free;
        executed = executed;
        moves = h.moves;
        is_executed = h.is_executed [];
        met = h.met [];
        ended = h.ended [];
        written = h.written [];
        devices = devices_closed settled account new places closes h.moves old.places h.devices;
        counted = is ∙ sym (ap (λ (x : Board). counted_on x executed) board);
      }

  pub runs_image : (end : End) → Ran account image (world_after image script) budget old new end → RunsImage account image script budget old (closed_over new places) end stats
  runs_image Quiet h = runs_to _ h
  runs_image Script h = runs_to _ h
  runs_image (Panic code) h = runs_to _ h
  runs_image (Fault fault address) h = runs_to _ h
  runs_image Budget h = runs_to _ h
  runs_image SinkFault h = (cut_closed settled account new places closes (world_after image script) budget old h.0, h.1)
