-- The run of an image as an answer, and what stands behind a transcript.
use Rattle.std.specs.Prelude.{◌≡◌, ◌⊎◌, ◌++◌, ℕ, List, [], codes, Bool, Option, Some, None, if◌then◌else◌}
use Rattle.board_world.specs.Observations.{End, Quietly, By_script, Panicked, Faulted}
use Rattle.board_world.specs.Transcript.{count_text, closing_line}
use Rattle.board_world.specs.Board.{Board, stats_of}
use Rattle.event_script.specs.declared.script.Script.{Script}
use Rattle.hex_image.specs.declared.refused.HexCode.{HexCode}
use Rattle.hex_image.specs.Codes.{number_of}
use Rattle.hex_image.specs.Spells.{Spells, Breaks}
use Rattle.hex_image.specs.Writing.{hextext}
use Rattle.board_outside.specs.Moves.{Move, HasMet}
use Rattle.board_run.specs.Ran.{world_after, IsExecuted}
use Rattle.run_tool.specs.declared.ending.Status.{Status}
use Rattle.run_tool.specs.declared.ending.Status.TheVariants as status
use Rattle.run_tool.specs.Answers.{Answer, says, runs}
use Rattle.run_tool.specs.Files.{ToldFiles, Reading, AnswersRead, code_line}
use Rattle.run_tool.specs.Scripts.{OverScript}

-- the status of a run by its end; none where the budget ended first
abbrev pub run_status : Option End → Status
run_status None = status.OutOfBudget
run_status (Some Quietly) = status.Done
run_status (Some By_script) = status.Done
run_status (Some (Panicked code)) = status.Panicked
run_status (Some (Faulted kind address)) = status.Faulted

-- the number of the status of a program's run: it ended, or by a panic, or its budget did first; an image's run may also end by a fault
abbrev pub IsProgramStatus : ℕ → Type 0
IsProgramStatus number = (number ≡ 0) ⊎ ((number ≡ 3) ⊎ (number ≡ 4))

abbrev pub IsImageStatus : ℕ → Type 0
IsImageStatus number = (number ≡ 0) ⊎ ((number ≡ 3) ⊎ ((number ≡ 4) ⊎ (number ≡ 13)))

-- The answer is the run of an image on a script within a budget of instructions: for some list of free words what the bank machine's world has met
-- after the instructions executed, and its closing line, with the status of the run's end.
pub record RunsBoard (image : List ℕ) (script : Script) (budget : ℕ) (answer : Answer) : Type 0 where
  pub free : List ℕ
  pub executed : ℕ
  pub moves : List Move
  pub is_executed : IsExecuted (world_after image script free) budget executed
  pub met : HasMet moves (world_after image script free executed).board
  pub is : (let b : Board = (world_after image script free executed).board in
      answer ≡ runs (run_status b.end) moves (closing_line b.clock b.end))

-- a text spells an image, or breaks a rule first
abbrev pub images : Reading (List ℕ) HexCode
images = record { stands_for = Spells; refuses = Breaks }

-- the answers of `run-hex` to a text: the run of the image that it spells, on the script that is named, or the rule that it breaks
abbrev pub RunsHex : ToldFiles → Option (List ℕ) → (budget : ℕ) → List ℕ → Answer → Type 0
RunsHex files script budget = AnswersRead images
    (λ text code answer. answer ≡ says status.ImageRefused (code_line (codes "image refused ") (number_of code)))
    (λ image. OverScript files script (λ read. RunsBoard image read budget))

-- `instructions I`
abbrev pub instructions_line : ℕ → List ℕ
instructions_line executed = codes "instructions " ++ (count_text executed ++ codes "\n")

-- the line of statistics, where these are asked for; and where the image is too, what stands behind it
abbrev pub asked_text : (stats with_image : Bool) → (line behind : List ℕ) → List ℕ
asked_text stats with_image line behind = if stats then line ++ (if with_image then behind else []) else []

-- So behind a transcript: the statistics of the board on which the run stands, and the number of instructions executed and the HEX text of the image.
abbrev pub asked_behind : (stats with_image : Bool) → Board → (executed : ℕ) → (image : List ℕ) → List ℕ
asked_behind stats with_image b executed image =
    asked_text stats with_image (stats_of b) (instructions_line executed ++ hextext image)
