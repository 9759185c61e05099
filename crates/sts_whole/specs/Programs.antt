-- How far the source of a program comes within a budget of instructions of its image.
use Rattle.std.specs.Prelude.{◌≡◌, ℕ, ◌*◌, ◌≤◌, ◌⊎◌, true, List}
use Rattle.board_world.specs.Observations.{ByteList}
use Rattle.board_world.specs.Board.{over}
use Rattle.board_world.specs.Activities.{World}
use Rattle.sts_syntax.specs.TypedTrees.{TypedProgram}
use Rattle.sts_meaning.specs.Frames.{Activity}
use Rattle.sts_meaning.specs.Heaps.{Heap}
use Rattle.sts_meaning.specs.Steps.{source_run}
use Rattle.sts_implements.specs.Images.{instructions_of_a_step}
use Rattle.event_script.specs.World.{world_entries}
use Rattle.event_script.specs.declared.script.Script.{Script}
use Rattle.board_outside.specs.Moves.{Move, HasMet}
use Rattle.board_run.specs.Ran.{world_after, IsExecuted}

-- the world of a program's source after so many counted steps, on a script
abbrev pub source_after : TypedProgram → List ByteList → Script → ℕ → World Activity Heap
source_after P texts script steps = source_run P texts script.end (world_entries script.entries) steps

-- For these free words the board of an image's run within a budget is, after the instructions executed, that of its program's source after these counted steps: no more of them than
-- instructions of the budget, and one at least for each 512 of it, where the source hasn't ended.
pub record ImageReaches (P : TypedProgram) (texts : List ByteList) (image : List ℕ) (script : Script) (budget : ℕ)
    (free : List ℕ) (executed steps : ℕ) : Type 0 where
  pub is_executed : IsExecuted (world_after image script free) budget executed
  pub board : (source_after P texts script steps).board ≡ (world_after image script free executed).board
  pub at_most : steps ≤ budget
  pub at_least : (n : ℕ) → instructions_of_a_step * n ≤ budget
      → (n ≤ steps) ⊎ (over (source_after P texts script steps).board ≡ true)

-- The same with what the source has met then.
pub record Met (P : TypedProgram) (texts : List ByteList) (image : List ℕ) (script : Script) (budget : ℕ)
    (free : List ℕ) : Type 0 where
  pub executed : ℕ
  pub steps : ℕ
  pub reaches : ImageReaches P texts image script budget free executed steps
  pub moves : List Move
  pub met : HasMet moves (source_after P texts script steps).board
