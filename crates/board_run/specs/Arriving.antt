-- The entries of a moment, as the board applies them.
use Rattle.std.specs.Prelude.{◌≡◌, ℕ, List, [], ◌∷◌, ◌++◌, length, drop}
use Rattle.board_world.specs.Board.{Board, arrive, arrive_all}
use Rattle.board_drivers.specs.Buttons.{Since, HasButtons}
use Rattle.message_bus.specs.BusState.{BusState}
use Rattle.event_script.specs.World.{world_act, world_entries}
use Rattle.event_script.specs.declared.script.Act.{Act}
use Rattle.event_script.specs.declared.script.Act.TheVariants.{Unplug as Unplugging}
use Rattle.board_ports.specs.Account.{Account}
use Rattle.board_ports.specs.Plugged.{Plugged}
use Rattle.board_run.specs.declared.engine.Engine.{Engine}
use Rattle.board_outside.specs.Moves.{Move, Unplugged, seen_of, unplugged_of}
use Rattle.board_run.specs.Represents.{entries_left}
use Rattle.board_run.specs.Outside.{PortsMeet}

-- the moves of an act
abbrev pub unplugs_of : Act → List Move
unplugs_of (Unplugging port) = Unplugged port ∷ []
unplugs_of _ = []

-- a board behind acts that leave this bus, these buttons and these moves
abbrev pub acted_on : BusState → Since → List Move → Board → Board
acted_on bus s moves b = record b {
  queue = bus.queue;
  a_since = s.a_since;
  b_since = s.b_since;
  unplugged = b.unplugged ++ unplugged_of (length b.seen) moves;
}

-- An act did to the bus, the buttons and the devices what it does to each board that has these.
pub record Applied {B : Type 0} (account : B → Account) (act : Act) (now : ℕ) (since since' : Since)
    (bus bus' : BusState) (plugged plugged' : Plugged B) : Type 0 where
  pub board : (b : Board) → HasButtons now since bus b
      → arrive (world_act act) b ≡ acted_on bus' since' (unplugs_of act) b
  pub listeners : bus'.listeners ≡ bus.listeners
  pub ports : PortsMeet account (unplugs_of act) plugged plugged'

-- The entries of the present moment did so, and those that are left come later.
pub record Arrived {B : Type 0} (account : B → Account) (old new : Engine) (plugged plugged' : Plugged B) : Type 0 where
  pub moves : List Move
  pub silent : seen_of moves ≡ []
  pub board : (b : Board) → HasButtons old.clock old.buttons old.bus b
      → arrive_all old.clock (entries_left old) b
      ≡ record (acted_on new.bus new.buttons moves b) { script = world_entries (drop new.next old.script.entries) }
  pub listeners : new.bus.listeners ≡ old.bus.listeners
  pub ports : PortsMeet account moves plugged plugged'
