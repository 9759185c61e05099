-- The acts and entries of the board's world that a script's are.
use Rattle.std.specs.Prelude.{List, map}
use Rattle.board_world.specs.Board as board
use Rattle.event_script.specs.declared.script.Act.{Act}
use Rattle.event_script.specs.declared.script.Act.TheVariants.{Down, Up, Raise, Unplug}
use Rattle.event_script.specs.declared.script.Entry.{Entry}

abbrev pub world_act : Act → board.Act
world_act (Down button) = board.Down button
world_act (Up button) = board.Up button
world_act (Raise event) = board.Raise event
world_act (Unplug port) = board.Unplug port

abbrev pub world_entries : List Entry → List board.Entry
world_entries es = map (λ e. record { at = e.at; act = world_act e.act }) es
