-- How far the source of a program comes, with arrivals at steps of its own, within a budget of instructions of its image with arrivals.
use Rattle.std.specs.Prelude.{◌≡◌, ℕ, ◌*◌, ◌<◌, ◌≤◌, ◌⊎◌, true, List, Some, length, take, slice_get}
use Rattle.board_world.specs.Observations.{ByteList}
use Rattle.board_world.specs.Board.{Entry, over}
use Rattle.board_world.specs.Activities.{World}
use Rattle.board_world.specs.Simulation.{Paired}
use Rattle.board_world.specs.Runs.{Arrival, RisesTo, Placed, run_with, applied}
use Rattle.sts_syntax.specs.TypedTrees.{TypedProgram}
use Rattle.sts_meaning.specs.Frames.{Activity}
use Rattle.sts_meaning.specs.Heaps.{Heap}
use Rattle.sts_meaning.specs.Steps.{source, source_start}
use Rattle.sts_implements.specs.Images.{instructions_of_a_step}
use Rattle.board_run.specs.Ran.{IsExecuted}
use Rattle.irq_arrival.specs.Along.{world_with}

-- the world of a program's source after so many counted steps, on a script and with these arrivals
abbrev pub source_with : TypedProgram → List ByteList → ℕ → List Entry → List Arrival → ℕ → World Activity Heap
source_with P texts until script places steps =
    run_with (source P texts) places steps (source_start P texts until script)

-- For these free words the board of an image's run with arrivals is, after the instructions executed within a budget, that of its program's source
-- after these counted steps, where each arrival that was applied comes at a step of the source's own, near its instruction: those steps don't fall, and
-- neither is any past the last. Those that were applied are the first so many. There are no more counted steps than instructions of the budget, and one at least for each 512 of it where the source
-- hasn't ended. Each arrival whose number is below the budget is applied, unless the source has ended within that number of counted steps.
pub record ReachesWith (P : TypedProgram) (texts : List ByteList) (image : List ℕ) (until : ℕ) (script : List Entry)
    (arrivals : List Arrival) (budget : ℕ) (free : List ℕ) (executed steps : ℕ) (places : List Arrival) : Type 0 where
  pub is_executed : IsExecuted (world_with image until script arrivals free) budget executed
  pub rises : RisesTo 0 places steps
  pub placed : Paired (Placed instructions_of_a_step)
      (applied (λ n. (world_with image until script arrivals free n).board) arrivals executed) places
  pub are_first : applied (λ n. (world_with image until script arrivals free n).board) arrivals executed
      ≡ take (length places) arrivals
  pub board : (source_with P texts until script places steps).board
      ≡ (world_with image until script arrivals free executed).board
  pub at_most : steps ≤ budget
  pub at_least : (n : ℕ) → instructions_of_a_step * n ≤ budget
      → (n ≤ steps) ⊎ (over (source_with P texts until script places steps).board ≡ true)
  pub applies : (i : ℕ) (a : Arrival) → slice_get arrivals i ≡ Some a → a.count < budget
      → (i < length places) ⊎ ((over (source_with P texts until script places steps).board ≡ true) × (steps ≤ a.count))
