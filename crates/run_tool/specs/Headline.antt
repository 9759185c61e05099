-- The claim of the whole: what the command writes and does where words ask for the run of a program. No machine is spoken of but in the second part, `IsRunOfImage`.
use Rattle.std.specs.Prelude.{◌≡◌, ◌≤◌, ◌*◌, ◌==◌, ◌⊎◌, ◌++◌, ℕ, Bool, true, false, List, [], flat_map, Option, Some}
use Rattle.std.specs.List.{list_any}
use Rattle.sts_base.specs.declared.tables.Tables.{Tables}
use Rattle.board_world.specs.Transcript.{lines, closing_line}
use Rattle.board_world.specs.Board.{Board, over}
use Rattle.board_ports.specs.History.{entries_at, PlacesAfter}
use Rattle.board_outside.specs.Ports.{words_of}
use Rattle.sts_syntax.specs.TypedTrees.{TypedProgram}
use Rattle.tool_io.specs.Putting.{Took}
use Rattle.hex_image.specs.Laws.{IsImage}
use Rattle.event_script.specs.declared.script.Script.{Script}
use Rattle.sts_whole.specs.Compiled.{IsBuiltFor}
use Rattle.board_run.specs.Ran.{world_after, IsExecuted}
use Rattle.typed_program.specs.Accepting.{Accepts}
use Rattle.sts_whole.specs.Programs.{source_after}
use Rattle.sts_words.specs.Orders.{Asked, run_program, run_big}
use Rattle.run_tool.specs.Answers.{OfSink, OfDevices, WroteNothing, status_number}
use Rattle.run_tool.specs.Files.{ToldFiles, Telling, NeitherFails}
use Rattle.run_tool.specs.Programs.{IsToldProgram}
use Rattle.run_tool.specs.Scripts.{IsToldScript, default_script}
use Rattle.run_tool.specs.Big.{big_line, big_text}
use Rattle.run_tool.specs.Runs.{asked_behind, run_status}

-- A run of a program that words ask for.
pub record AskedRun : Type 0 where
  pub program : TypedProgram
  pub tables : Tables  -- with the program's texts
  pub script : Script
  pub budget : ℕ  -- the most instructions
  pub lead : List ℕ  -- what is written before the transcript
  pub with_stats : Bool  -- whether the statistics are asked for behind it,
  pub with_image : Bool  -- and the image behind them

-- The words ask for a run, over a folder that tells this of its files: `run P` or `run P S`, or `big N`.
abbrev pub AsksForRun : Telling → Option Asked → AskedRun → Type 0
AsksForRun told (Some (run_program name script budget stats image)) r =
    IsToldProgram told name r.tables r.program × IsToldScript told script r.script
    × (r.budget ≡ budget) × (r.lead ≡ []) × (r.with_stats ≡ stats) × (r.with_image ≡ image)
AsksForRun told (Some (run_big size budget stats)) r =
    Accepts (big_text size) r.tables r.program × (r.script ≡ default_script)
    × (r.budget ≡ budget) × (r.lead ≡ big_line size) × (r.with_stats ≡ stats) × (r.with_image ≡ false)
AsksForRun told other r = ⊥

-- what the source of a run's program has shown after so many counted steps, the clock, and how it has ended, if it has
abbrev pub source_board : AskedRun → ℕ → Board
source_board r steps = (source_after r.program r.tables.texts r.script steps).board

-- First. What was written is the transcript of the source's first counted steps: their lines, and its own closing line where it has ended by then, else the line of the budget; then what is asked for,
-- where the number of instructions and the image are those of the second part. The steps are no more than the budget's instructions. For each n with 512 n in the budget it is the whole transcript where the
-- source ends within n steps, else that of at least n. The status is that of the closing line. Each device that stays took the words of what was seen, or failed among them; one that was unplugged is gone, and
-- nothing else is said of it.
pub record IsTranscript {B : Type 0} (r : AskedRun) (sink : OfSink) (devices : OfDevices B)
    (number steps executed : ℕ) (image : List ℕ) : Type 0 where
  pub written : (let b = source_board r steps in Took sink.taken_before sink.taken_after (r.lead
      ++ (lines b.seen ++ (closing_line b.clock b.end ++ asked_behind r.with_stats r.with_image b executed image))))
  pub at_most : steps ≤ r.budget
  pub whole : (n : ℕ) → 512 * n ≤ r.budget → over (source_board r n) ≡ true → source_board r steps ≡ source_board r n
  pub at_least : (n : ℕ) → 512 * n ≤ r.budget → (n ≤ steps) ⊎ (over (source_board r steps) ≡ true)
  pub status : number ≡ status_number (run_status (source_board r steps).end)
  pub met : (let b = source_board r steps in PlacesAfter devices.account (entries_at (flat_map words_of b.seen))
      (λ port. list_any (λ unplug. unplug.0 == port) b.unplugged) devices.before devices.after)

-- Second. That is the run of an image that implements the program: for some list of free words the board of the bank machine's run of it is the same after the instructions executed, at which it has
-- ended, or which are the whole budget.
pub record IsRunOfImage (r : AskedRun) (steps executed : ℕ) (image : List ℕ) : Type 0 where
  pub is_image : IsImage image
  pub built : IsBuiltFor r.program r.tables.texts image
  pub free : List ℕ
  pub is_executed : IsExecuted (world_after image r.script free) r.budget executed
  pub board : source_board r steps ≡ (world_after image r.script free executed).board

-- The claim, of a call with these words: where neither the folder's count of faults rose nor the sink's, there was no memory, and nothing was written but what stands before the transcript; or the transcript of
-- the program's source was written, and that is the run of an image.
abbrev pub Headline : {B : Type 0} → ToldFiles → OfSink → OfDevices B → Option Asked → ℕ → Type 0
Headline files sink devices asked number =
    (r : AskedRun) → AsksForRun files.told asked r → NeitherFails files sink
    → ((number ≡ 30) × WroteNothing sink devices r.lead)
    ⊎ ((steps executed : ℕ) × (image : List ℕ)
    × IsTranscript r sink devices number steps executed image × IsRunOfImage r steps executed image)
