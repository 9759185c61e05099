-- A run behind which the devices settle.
use Rattle.std.proofs.Common.{ℕ, List, Option}
use Rattle.board_world.specs.Activities.{World}
use Rattle.bank_model.specs.Fibers.{Fiber, Shared}
use Rattle.board_ports.specs.Account.{Account}
use Rattle.board_ports.specs.Plugged.{Plugged, SettlesAll}
use Rattle.board_ports.proofs.Laws.{places_settled}
use Rattle.board_outside.specs.Moves.{Move}
use Rattle.board_outside.specs.Ports.{DevicesAfter}
use Rattle.board_run.specs.Outside.{Outside, OverSink, around}
use Rattle.board_run.specs.Ran.{IsCut}

-- the sink that a board is over, and these places in place of the board's own
abbrev pub closed_over : {B : Type 0} → OverSink B → List (Option B) → Outside B
closed_over b places = record { taken = b.taken; faults = b.faults; places = places }

module _ {B : Type 0} (settled : B → Type 0) (account : B → Account) (b : OverSink B) (places : List (Option B)) (s : SettlesAll settled account b.board.plugs places) where
  pub devices_closed : (moves : List Move) (old : List (Option B)) → DevicesAfter account moves old b.board.plugs.places → DevicesAfter account moves old places
  devices_closed moves old d = places_settled account settled _ _ old b.board.plugs places d s

  pub cut_closed : (course : List ℕ → ℕ → World Fiber Shared) (budget : ℕ) (old : Outside B) → IsCut account course budget old (around b) → IsCut account course budget old (closed_over b places)
  cut_closed course budget old c =
      record {
        free = c.free;
        executed = c.executed;
        moves = c.moves;
        is_executed = c.is_executed;
        met = c.met;
        stopped = record {
          done = c.stopped.done;
          left = c.stopped.left;
          split = c.stopped.split;
          text = c.stopped.text;
          due = c.stopped.due;
          written = c.stopped.written;
          devices = devices_closed c.stopped.done old.places c.stopped.devices;
        };
      }
