-- The run of a program as an answer.
use Rattle.std.specs.Prelude.{◌≡◌, ◌++◌, ℕ, List, Bool, Option}
use Rattle.board_world.specs.Observations.{ByteList}
use Rattle.board_world.specs.Transcript.{closing_line}
use Rattle.board_world.specs.Board.{Board}
use Rattle.sts_syntax.specs.TypedTrees.{TypedProgram}
use Rattle.event_script.specs.declared.script.Script.{Script}
use Rattle.hex_image.specs.Laws.{IsImage}
use Rattle.board_outside.specs.Moves.{Move, HasMet}
use Rattle.sts_whole.specs.Compiled.{IsBuiltFor}
use Rattle.sts_whole.specs.Programs.{source_after, ImageReaches}
use Rattle.run_tool.specs.Answers.{Answer, runs}
use Rattle.run_tool.specs.Files.{ToldFiles}
use Rattle.run_tool.specs.Programs.{OverProgram}
use Rattle.run_tool.specs.Scripts.{OverScript}
use Rattle.run_tool.specs.Runs.{run_status, asked_behind}

-- The answer is the run of a program on a script within a budget of instructions: what the program's source has met after some counted steps, its closing line, and what is asked for behind
-- it, with the status of its end. The program's image, of bytes and within flash, implements it, and its run within the budget reaches these counted steps, for some list of free words.
pub record RunsProgram (P : TypedProgram) (texts : List ByteList) (script : Script) (budget : ℕ)
    (stats with_image : Bool) (answer : Answer) : Type 0 where
  pub image : List ℕ
  pub is_image : IsImage image
  pub built : IsBuiltFor P texts image
  pub free : List ℕ
  pub executed : ℕ
  pub steps : ℕ
  pub reaches : ImageReaches P texts image script budget free executed steps
  pub moves : List Move
  pub met : HasMet moves (source_after P texts script steps).board
  pub is : (let b : Board = (source_after P texts script steps).board in answer ≡ runs (run_status b.end) moves
      (closing_line b.clock b.end ++ asked_behind stats with_image b executed image))

-- the answers of `run` to a text: the run of the program on the script that is named
abbrev pub RunsText : ToldFiles → Option (List ℕ) → (budget : ℕ) → (stats with_image : Bool) → List ℕ → Answer → Type 0
RunsText files script budget stats with_image =
    OverProgram (λ P texts. OverScript files script (λ read. RunsProgram P texts read budget stats with_image))
