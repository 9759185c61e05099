-- The run of a program with arrivals as an answer, and what `run-at P S A` comes to where nothing fails, told by the program's meaning alone.
use Rattle.std.specs.Prelude.{◌≡◌, ℕ, List, codes, Some, Ok, Err, ◌≤◌, ◌<◌, ◌⊎◌, ◌*◌, true, [], length, take, slice_get, Option}
use Rattle.std.specs.List.{AllByRecursion}
use Rattle.serde_json.specs.Data.{Data}
use Rattle.board_world.specs.Observations.{ByteList}
use Rattle.board_world.specs.Transcript.{closing_line}
use Rattle.board_world.specs.Board.{Board, over, transcript_of}
use Rattle.sts_syntax.specs.TypedTrees.{TypedProgram}
use Rattle.event_script.specs.declared.script.Script.{Script}
use Rattle.event_script.specs.Json.{IsTree}
use Rattle.arrival_file.specs.declared.arrival.Arrival.{Arrival}
use Rattle.arrival_file.specs.declared.arrival.ArrivalCode.{ArrivalCode}
use Rattle.arrival_file.specs.declared.arrival.ArrivalCode.TheVariants.{NotJson}
use Rattle.arrival_file.specs.Codes.{number_of}
use Rattle.arrival_file.specs.Verdict.{Tells}
use Rattle.arrival_file.specs.World.{world_arrivals}
use Rattle.hex_image.specs.Laws.{IsImage}
use Rattle.sts_whole.specs.Compiled.{IsBuiltFor}
use Rattle.board_run.specs.Ran.{IsExecuted}
use Rattle.event_script.specs.World.{world_entries}
use Rattle.irq_arrival.specs.Along.{world_with}
use Rattle.irq_arrival.specs.SourceRuns.{source_at, MeetsAt}
use Rattle.sts_base.specs.declared.tables.Tables.{Tables}
use Rattle.board_world.specs.Simulation.{Paired}
use Rattle.board_world.specs.Runs.{Arrival as WorldArrival, RisesTo, Placed, applied}
use Rattle.board_outside.specs.Moves.{Move, HasMet}
use Rattle.board_outside.specs.Ports.{DevicesAfter}
use Rattle.tool_io.specs.Putting.{Took}
use Rattle.sts_words.specs.Orders.{Asked, run_at}
use Rattle.run_tool.specs.declared.ending.Status.TheVariants.{ArrivalsRefused}
use Rattle.run_tool.specs.Answers.{Answer, says, runs, OfSink, OfDevices, status_number}
use Rattle.run_tool.specs.Files.{ToldFiles, AnswersFile, AnswersRead, code_line, Telling, NeitherFails, IsToldWithin}
use Rattle.run_tool.specs.Programs.{OverProgram, IsToldProgram}
use Rattle.run_tool.specs.Scripts.{OverScript, IsToldScript}
use Rattle.run_tool.specs.Runs.{run_status, IsProgramStatus}

-- The bytes stand for no arrivals, by this code first: they are no JSON, or their tree breaks the code's rule.
abbrev pub RefusesArrivals : List ℕ → ArrivalCode → Type 0
RefusesArrivals text NotJson = (tree : Data) → ¬ (IsTree text tree)
RefusesArrivals text code = Tells text (Err code)

-- the answers to a text of arrivals, by those over the arrivals for which it stands
abbrev pub AnswersArrivals : (List Arrival → Answer → Type 0) → List ℕ → Answer → Type 0
AnswersArrivals =
    AnswersRead (record { stands_for = λ text arrivals. Tells text (Ok arrivals); refuses = RefusesArrivals })
    (λ text code answer. answer ≡ says ArrivalsRefused (code_line (codes "arrivals refused ") (number_of code)))

-- The answer is the run of a program on a script, with arrivals, within a budget of instructions: what the program's source has met after some counted steps, where each arrival that
-- was applied comes at a step of the source's own, and its closing line, with the status of its end. An image of bytes that fits into flash implements the program, whose run with the arrivals within the budget
-- reaches these counted steps, for some list of free words.
pub record RunsProgramAt (P : TypedProgram) (texts : List ByteList) (script : Script) (arrivals : List Arrival)
    (budget : ℕ) (answer : Answer) : Type 0 where
  pub image : List ℕ
  pub is_image : IsImage image
  pub built : IsBuiltFor P texts image
  pub meets : MeetsAt P texts image script (world_arrivals arrivals) budget
  pub is : (let b : Board = (source_at P texts script meets.places meets.steps).board in
      answer ≡ runs (run_status b.end) meets.moves (closing_line b.clock b.end))

-- the answers over a script: the run of the program with the arrivals that are named
abbrev pub RunsOnScript : ToldFiles → (arrivals : List ℕ) → (budget : ℕ)
    → TypedProgram → List ByteList → Script → Answer → Type 0
RunsOnScript files arrivals budget P texts script =
    AnswersFile files arrivals (AnswersArrivals (λ come. RunsProgramAt P texts script come budget))

-- the same over the script that is named
abbrev pub RunsOutside : ToldFiles → (script arrivals : List ℕ) → (budget : ℕ)
    → TypedProgram → List ByteList → Answer → Type 0
RunsOutside files script arrivals budget P texts =
    OverScript files (Some script) (RunsOnScript files arrivals budget P texts)

-- the answers of `run-at` to a text
abbrev pub RunsTextAt : ToldFiles → (script arrivals : List ℕ) → (budget : ℕ) → List ℕ → Answer → Type 0
RunsTextAt files script arrivals budget = OverProgram (RunsOutside files script arrivals budget)

-- The files of these names are told: a text that is accepted as this program, a script, and arrivals.
pub record AreTold (told : Telling) (name script_name arrivals_name : List ℕ)
    (tables : Tables) (P : TypedProgram) (read : Script) (come : List Arrival) : Type 0 where
  pub program : IsToldProgram told name tables P
  pub script : IsToldScript told (Some script_name) read
  pub arrivals : IsToldWithin told arrivals_name (λ text. Tells text (Ok come))

-- First. The program's meaning comes so far on the script: after these counted steps, no more than the budget, and one at least for each 512 of it where it hasn't ended. The first
-- so many arrivals, none past the budget, come behind steps that don't fall, each at most at its number and near it; each whose number is below the budget comes, unless the program
-- has ended within so many steps.
pub record ComesSoFar (P : TypedProgram) (texts : List ByteList) (read : Script) (come : List Arrival)
    (budget : ℕ) : Type 0 where
  pub steps : ℕ
  pub places : List WorldArrival
  pub moves : List Move
  pub rises : RisesTo 0 places steps
  pub placed : Paired (Placed 512) (take (length places) (world_arrivals come)) places
  pub within : AllByRecursion (λ (a : WorldArrival). a.count ≤ budget) (take (length places) (world_arrivals come))
  pub applies : (i : ℕ) (a : WorldArrival) → slice_get (world_arrivals come) i ≡ Some a → a.count < budget
      → (i < length places) ⊎ ((over (source_at P texts read places steps).board ≡ true) × (steps ≤ a.count))
  pub at_most : steps ≤ budget
  pub at_least : (n : ℕ) → 512 * n ≤ budget → (n ≤ steps) ⊎ (over (source_at P texts read places steps).board ≡ true)
  pub met : HasMet moves (source_at P texts read places steps).board

-- Its transcript is written, the devices have met what it has met, and the status is that of its end: 0, 3 or 4.
pub record WritesAt {B : Type 0} (sink : OfSink) (devices : OfDevices B) (P : TypedProgram) (texts : List ByteList)
    (read : Script) (come : List Arrival) (budget number : ℕ) : Type 0 where
  pub comes : ComesSoFar P texts read come budget
  pub written : Took sink.taken_before sink.taken_after (transcript_of (source_at P texts read comes.places comes.steps).board)
  pub met : DevicesAfter devices.account comes.moves devices.before devices.after
  pub status : number ≡ status_number (run_status (source_at P texts read comes.places comes.steps).board.end)
  pub ended : IsProgramStatus number

-- Second. That is the run of the image that is built of the program: for some list of free words the board of the bank machine's run of it with these arrivals is the same after the instructions executed, at which it
-- has ended, or which are the whole budget. The arrivals that came are those that were applied in this run: each whose number is executed before it has ended, and no other.
pub record IsRunOfImageAt (P : TypedProgram) (texts : List ByteList) (read : Script) (come : List Arrival) (budget : ℕ)
    (so_far : ComesSoFar P texts read come budget) : Type 0 where
  pub image : List ℕ
  pub is_image : IsImage image
  pub built : IsBuiltFor P texts image
  pub free : List ℕ
  pub executed : ℕ
  pub is_executed :
      IsExecuted (world_with image read.end (world_entries read.entries) (world_arrivals come) free) budget executed
  pub board : (source_at P texts read so_far.places so_far.steps).board
      ≡ (world_with image read.end (world_entries read.entries) (world_arrivals come) free executed).board
  pub came : take (length so_far.places) (world_arrivals come)
      ≡ applied (λ n. (world_with image read.end (world_entries read.entries) (world_arrivals come) free n).board)
      (world_arrivals come) executed

-- For words that ask for it, over files that are told, and where no count of faults rose: there was no memory, and nothing was written and no device changed; or that was written, and it is the run of an image.
abbrev pub HeadlineAt : {B : Type 0} → ToldFiles → OfSink → OfDevices B → Option Asked → ℕ → Type 0
HeadlineAt files sink devices asked number =
    (name script_name arrivals_name : List ℕ) (budget : ℕ)
    (tables : Tables) (P : TypedProgram) (read : Script) (come : List Arrival)
    → asked ≡ Some (run_at name script_name arrivals_name budget)
    → AreTold files.told name script_name arrivals_name tables P read come
    → NeitherFails files sink
    → ((number ≡ 30) × Took sink.taken_before sink.taken_after [] × (devices.after ≡ devices.before))
    ⊎ ((writes : WritesAt sink devices P tables.texts read come budget number)
    × IsRunOfImageAt P tables.texts read come budget writes.comes)
