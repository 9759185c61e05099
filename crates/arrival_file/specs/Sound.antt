-- When arrivals are sound, and what those that were read keep to besides.
use Rattle.std.specs.Prelude.{◌≤◌, List, length, All, IsTrue}
use Rattle.board_world.specs.Runs.{Rises}
use Rattle.board_world.specs.Board.{IsSoundAct}
use Rattle.event_script.specs.World.{world_act}
use Rattle.event_script.specs.Sound.{HasSmallNumbers}
use Rattle.arrival_file.specs.declared.arrival.Arrival.{Arrival}
use Rattle.arrival_file.specs.Limits.{arrival_limit, greatest_after}
use Rattle.arrival_file.specs.Form.{may_arrive}
use Rattle.arrival_file.specs.World.{world_arrivals}

-- the numbers don't fall, from 1 on; buttons are 1 or 2; and none is an unplug
pub record IsSound (arrivals : List Arrival) : Type 0 where
  pub order : Rises 1 (world_arrivals arrivals)
  pub acts : All (λ a. IsSoundAct (world_act a.act)) arrivals
  pub arrive : All (λ a. IsTrue (may_arrive a.act)) arrivals

-- what the form of a file sets, and soundness doesn't ask
pub record IsWithinForm (arrivals : List Arrival) : Type 0 where
  pub few : length arrivals ≤ arrival_limit
  pub small : All (λ a. a.after ≤ greatest_after) arrivals
  pub numbers : All (λ a. HasSmallNumbers a.act) arrivals
