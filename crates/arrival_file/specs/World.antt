-- The arrivals of the board's world that those of a file are.
use Rattle.std.specs.Prelude.{List, map}
use Rattle.board_world.specs.Runs as world
use Rattle.event_script.specs.World.{world_act}
use Rattle.arrival_file.specs.declared.arrival.Arrival.{Arrival}

abbrev pub world_arrivals : List Arrival → List world.Arrival
world_arrivals arrivals = map (λ a. record { count = a.after; act = world_act a.act }) arrivals
