-- The run of a class as an answer, and what `class C` comes to where nothing fails: the boards' sources are stepped together through time, and each hears what the others send.
use Rattle.std.specs.Prelude.{◌≡◌, ◌⊎◌, ◌==◌, ℕ, List, map, if◌then◌else◌, [], Option, Some, Ok}
use Rattle.board_world.specs.Observations.{ByteList}
use Rattle.sts_meaning.specs.Frames.{Activity}
use Rattle.sts_meaning.specs.Heaps.{Heap}
use Rattle.sts_meaning.specs.Steps.{source, empty}
use Rattle.sts_implements.specs.Images.{instructions_of_a_step}
use Rattle.sts_whole.specs.Compiled.{IsBuiltFor}
use Rattle.bank_model.specs.Fibers.{Fiber, Shared}
use Rattle.hex_image.specs.Laws.{IsImage}
use Rattle.board_world.specs.Simulation.{Paired}
use Rattle.event_script.specs.World.{world_entries}
use Rattle.class_file.specs.declared.class.ClassFile.{ClassFile}
use Rattle.class_world.specs.Classes as world
use Rattle.class_steps.specs.Texts.{boards_now, HasWholeText, HasSpentText}
use Rattle.class_meaning.specs.Meaning.{HasTextCutWithin}
use Rattle.class_radio.specs.Losses.{lost_by}
use Rattle.class_radio.specs.Playing.{Setup}
use Rattle.class_radio.specs.Outcome.{class_of_parts, is_panic, how_many_end}
use Rattle.tool_io.specs.Putting.{Took}
use Rattle.class_file.specs.Verdict.{Tells}
use Rattle.class_file.specs.declared.class.Names.{Names}
use Rattle.sts_words.specs.Orders.{Asked, run_class}
use Rattle.run_tool.specs.declared.ending.Status.{Status}
use Rattle.run_tool.specs.declared.ending.Status.TheVariants.{Done, Panicked, OutOfBudget}
use Rattle.run_tool.specs.Answers.{Answer, says, status_number, OfSink, OfDevices}
use Rattle.run_tool.specs.Files.{ToldFiles, Telling, NeitherFails, IsToldWithin}
use Rattle.run_tool.specs.ClassBoards.{AnswersClassFile, BoardSource, OverBoards}
use Rattle.run_tool.specs.Programs.{IsToldProgram}
use Rattle.run_tool.specs.Scripts.{IsToldScript}

-- a board of a class, of which the program's source is run
abbrev pub source_member : BoardSource → world.Member Activity Heap
source_member board =
    (let texts = board.tables.texts in
    record {
      kind = source board.program texts;
      main = board.program.main;
      shared = empty board.program texts;
      script = world_entries board.script.entries;
    })

-- the class of these boards, with the end and the losses of its file
abbrev pub class_of_sources : ClassFile → List BoardSource → world.Class Activity Heap
class_of_sources file boards = record { members = map source_member boards; until = file.end; lost = lost_by file.lose }

-- the status of a class whose runs have all ended, so many of them by a panic
abbrev pub status_by : ℕ → Status
status_by panics = if panics == 0 then Done else Panicked

-- the image that is built of a board's program, of bytes and within flash, runs on the board's script
pub record IsBuiltAs (board : BoardSource) (setup : Setup) : Type 0 where
  pub is_image : IsImage setup.image
  pub built : IsBuiltFor board.program board.tables.texts setup.image
  pub script : setup.script ≡ board.script

-- So runs, for some list of free words for each board, the class of the images that are built of the boards' programs.
pub record ImagesRun (file : ClassFile) (boards : List BoardSource) (runs : world.Class Fiber Shared → Type 0)
    : Type 0 where
  pub setups : List Setup
  pub built : Paired IsBuiltAs boards setups
  pub frees : List (List ℕ)
  pub run : runs (class_of_parts setups file.lose file.end frees)

-- The answer is the class's whole text: each board's source has ended, within so many counted steps, and so has the run of each image, within so many instructions.
pub record RunsWhole (file : ClassFile) (boards : List BoardSource) (budget : ℕ) (answer : Answer) : Type 0 where
  pub text : ByteList
  pub has : HasWholeText (class_of_sources file boards) budget text
  pub images : ImagesRun file boards (λ class. HasWholeText class budget text)
  pub is : answer ≡ says (status_by (how_many_end is_panic (boards_now file.end has.runs))) text

-- The answer is the class's text that is cut in a board's run, which hasn't ended: no board's source has made more counted steps than the budget, and this one has made one at least for each 512 of it; no image has
-- executed more instructions than the budget, and one that goes on has executed as many.
pub record RunsCut (file : ClassFile) (boards : List BoardSource) (budget : ℕ) (answer : Answer) : Type 0 where
  pub text : ByteList
  pub has : HasTextCutWithin (class_of_sources file boards) instructions_of_a_step budget text
  pub images : ImagesRun file boards (λ class. HasSpentText class budget text)
  pub is : answer ≡ says OutOfBudget text

-- the run of a class, within a budget of instructions for each board
abbrev pub RunsClass : ClassFile → List BoardSource → ℕ → Answer → Type 0
RunsClass file boards budget answer = RunsWhole file boards budget answer ⊎ RunsCut file boards budget answer

-- the answers over a class, and those of `class` to a text
abbrev pub RunsFile : ToldFiles → (budget : ℕ) → ClassFile → Answer → Type 0
RunsFile files budget file =
    OverBoards files file.end 0 file.boards (λ boards. RunsClass file boards budget)

abbrev pub RunsClassText : ToldFiles → (budget : ℕ) → List ℕ → Answer → Type 0
RunsClassText files budget = AnswersClassFile (RunsFile files budget)

-- The files of a board are told: a text that is accepted as its program, and its script, which ends with the class.
pub record IsToldBoard (told : Telling) (until : ℕ) (names : Names) (board : BoardSource) : Type 0 where
  pub program : IsToldProgram told names.program board.tables board.program
  pub script : IsToldScript told (Some names.script) board.script
  pub ends : board.script.end ≡ until

-- The file of this name is told and stands for a class, and so are the files of its boards.
pub record IsToldClass (told : Telling) (name : List ℕ) (file : ClassFile) (boards : List BoardSource) : Type 0 where
  pub is : IsToldWithin told name (λ text. Tells text (Ok file))
  pub are : Paired (IsToldBoard told file.end) file.boards boards

-- How far the run of a class comes: to its end, or to where the budget of a board ended.
pub data Extent : Type 0 where
  whole : Extent
  cut : Extent

-- First. What is written is the text of the class of the boards' sources. It is the whole one: each source has ended, within so many counted steps; the status is 0, or 3 where some board panicked. Or it is cut in the run
-- of a board whose source hasn't ended: no source has made more counted steps than the budget, and this one has made one at least for each 512 of it; the status is 4.
abbrev pub IsClassText : ClassFile → List BoardSource → (budget : ℕ) → Extent → ByteList → (number : ℕ) → Type 0
IsClassText file boards budget whole text number =
    (has : HasWholeText (class_of_sources file boards) budget text)
    × (number ≡ status_number (status_by (how_many_end is_panic (boards_now file.end has.runs))))
IsClassText file boards budget cut text number =
    HasTextCutWithin (class_of_sources file boards) 512 budget text × (number ≡ status_number OutOfBudget)

-- Second. That is the text of the class of the images that are built of the boards' programs, for some list of free words for each: each has ended within the budget of instructions; or none has executed more than
-- the budget, and the one in whose run the text is cut has executed as many.
abbrev pub IsRunOfImages : ClassFile → List BoardSource → (budget : ℕ) → Extent → ByteList → Type 0
IsRunOfImages file boards budget whole text = ImagesRun file boards (λ class. HasWholeText class budget text)
IsRunOfImages file boards budget cut text = ImagesRun file boards (λ class. HasSpentText class budget text)

-- The claim, of a call with these words, for a class that is told: where no count of faults rose, of the folder or the sink, no device changed; and there was no memory, and nothing was written; or the text of the
-- class of the boards' sources was, and that is the run of their images.
abbrev pub HeadlineClass : {B : Type 0} → ToldFiles → OfSink → OfDevices B → Option Asked → ℕ → Type 0
HeadlineClass files sink devices asked number =
    (name : List ℕ) (budget : ℕ) (file : ClassFile) (boards : List BoardSource)
    → asked ≡ Some (run_class name budget) → IsToldClass files.told name file boards
    → NeitherFails files sink
    → (devices.after ≡ devices.before)
    × (((number ≡ 30) × Took sink.taken_before sink.taken_after [])
    ⊎ ((extent : Extent) × (text : ByteList) × Took sink.taken_before sink.taken_after text
    × IsClassText file boards budget extent text number × IsRunOfImages file boards budget extent text))
