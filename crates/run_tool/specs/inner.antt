-- What one private function hands on to the next: how a call ended, what a file's text stands for, which names were asked for on the way, and boards that
-- are made ready.
use Rattle.std.specs.Prelude.{◌≡◌, ◌≤◌, ◌⊎◌, ◌++◌, ◌∷◌, ℕ, List, [], Option, Some, None, Result, Ok, Err, All, length, vec_len}
use Rattle.std.specs.declared.vec.Vec.{Vec}
use Rattle.std.specs.declared.alloc.Global.{Global}
use Rattle.sts_base.specs.Faults.{Rose}
use Rattle.thumb_code.specs.Map.{flash_end}
use Rattle.board_world.specs.Simulation.{Paired}
use Rattle.tool_io.specs.Putting.{Took, TookPart, Puts}
use Rattle.tool_io.specs.declared.sink.PutFailed.{PutFailed}
use Rattle.event_script.specs.declared.script.Script.{Script}
use Rattle.event_script.specs.Sound.{IsSound}
use Rattle.event_script.specs.Verdict.{Tells}
use Rattle.class_file.specs.declared.class.Names.{Names}
use Rattle.hex_image.specs.Laws.{IsImage}
use Rattle.board_run.specs.declared.end.End.{End}
use Rattle.board_run.specs.declared.end.End.TheVariants.{SinkFault}
use Rattle.board_run.specs.Ran.{end_told}
use Rattle.class_radio.specs.declared.run.ClassEnd.{ClassEnd}
use Rattle.class_radio.specs.declared.run.ClassEnd.TheVariants as class
use Rattle.class_radio.specs.Outcome.{setups_of}
use Rattle.typed_program.specs.Accepting.{Accepts}
use Rattle.run_tool.specs.Built.{Builds}
use Rattle.run_tool.specs.declared.ending.Status.{Status}
use Rattle.run_tool.specs.declared.ending.Status.TheVariants as status
use Rattle.run_tool.specs.declared.ending.Ending.{Ending}
use Rattle.run_tool.specs.declared.ending.Ending.TheVariants.{Gave, Cut, NoMemory}
use Rattle.run_tool.specs.declared.fetched.Fetched.TheVariants.{Text}
use Rattle.run_tool.specs.declared.class_boards.Boards.{Boards}
use Rattle.run_tool.specs.Answers.{Answer, says}
use Rattle.run_tool.specs.Files.{ToldFiles, MayFetch}
use Rattle.run_tool.specs.Scripts.{default_script}
use Rattle.run_tool.specs.Runs.{run_status}
use Rattle.run_tool.specs.ClassBoards.{BoardSource}
use Rattle.run_tool.specs.Class.{IsBuiltAs, status_by}

-- Of a call that has no devices and no line of its own: one of these answers, which are outputs, was given whole, or cut short; or nothing was written.
abbrev pub SaysAnswer : (Answer → Type 0) → Option (List ℕ) → Option (List ℕ) → Ending → Type 0
SaysAnswer may taken taken' (Gave status) = (output : List ℕ) × may (says status output) × Took taken taken' output
SaysAnswer may taken taken' Cut =
    (status : Status) × (output : List ℕ) × may (says status output) × TookPart taken taken' output
SaysAnswer may taken taken' NoMemory = Took taken taken' []

-- It was cut short only where the sink's count of faults rose.
pub record GivesOneOf {S : Type 0} (taken : S → Option (List ℕ)) (faults : S → ℕ) (old new : S)
    (may : Answer → Type 0) (ending : Ending) : Type 0 where
  pub ends : SaysAnswer may (taken old) (taken new) ending
  pub later : faults old ≤ faults new
  pub cut : ending ≡ Cut → Rose (faults old) (faults new)

-- words that aren't taken were told so, or the sink failed
abbrev pub ToldUsage : Ending → Type 0
ToldUsage ending = (ending ≡ Gave status.Usage) ⊎ (ending ≡ Cut)

-- the call ended for want of memory
abbrev pub FoundNoMemory : Ending → Type 0
FoundNoMemory ending = ending ≡ NoMemory

-- how a call ends whose run ended so
abbrev pub ending_of : End → Ending
ending_of SinkFault = Cut
ending_of end = Gave (run_status (end_told end))

-- the same of a class's run
abbrev pub ending_of_class : ClassEnd → Ending
ending_of_class (class.Done panics faults) = Gave (status_by panics)
ending_of_class (class.Budget number) = Gave status.OutOfBudget
ending_of_class class.SinkFault = Cut

-- how a call ends whose last text was put so
abbrev pub ending_by : Status → Result (Unit {0}) PutFailed → Ending
ending_by status (Ok x) = Gave status
ending_by status (Err x) = Cut

-- Where a run's ending was to be this, the text behind it was put, and the call ended so.
abbrev pub FinishesRun : Option (List ℕ) → Option (List ℕ) → ℕ → ℕ → Ending → List ℕ → Ending → Type 0
FinishesRun taken taken' fs fs' (Gave status) behind ending =
    (put : Result (Unit {0}) PutFailed) × Puts taken taken' fs fs' behind put × (ending ≡ ending_by status put)
FinishesRun taken taken' fs fs' other behind ending = (taken' ≡ taken) × (fs' ≡ fs) × (ending ≡ other)

-- the text of the file of that name was fetched, and is such a text
abbrev pub HasText : ToldFiles → List ℕ → (List ℕ → Type 0) → Type 0
HasText files name Such = (text : Vec ℕ Global) × MayFetch files name (Text text) × Such text.items

-- This is the script: the one of no name, or the one that the file of the name stands for.
abbrev pub IsScriptOf : ToldFiles → Option (List ℕ) → Script → Type 0
IsScriptOf files None script = script ≡ default_script
IsScriptOf files (Some name) script = HasText files name (λ text. Tells text (Ok script))

-- There are no answers to what wasn't read, to the text of a file that wasn't fetched;
abbrev pub none_to_read : {T : Type 0} → T → Answer → Type 0
none_to_read read answer = ⊥

-- and it doesn't come to what would be fetched next.
abbrev pub wants_never : List (List ℕ) → Type 0
wants_never names = ⊥

-- the names of the files of boards
abbrev pub names_of_boards : List Names → List (List ℕ)
names_of_boards [] = []
names_of_boards (names ∷ boards) = names.program ∷ names.script ∷ names_of_boards boards

-- Boards of a class can be run together up to this end: each image fits into flash, and each script is sound and ends then.
pub record CanRun (until : ℕ) (boards : Boards) : Type 0 where
  pub as_many : length boards.scripts.items ≡ length boards.images.items
  pub fit : All (λ image. vec_len image ≤ flash_end) boards.images.items
  pub sound : All IsSound boards.scripts.items
  pub ends : All (λ (script : Script). script.end ≡ until) boards.scripts.items

-- Over a class with this end:
module _ (files : ToldFiles) (until : ℕ) where
  -- a board's source is that of the files of these names, and its script ends with the class,
  pub record IsSourceOf (names : Names) (board : BoardSource) : Type 0 where
    pub program : HasText files names.program (λ text. Accepts text board.tables board.program)
    pub script : IsScriptOf files (Some names.script) board.script
    pub ends : board.script.end ≡ until

  -- the board of these names is one more: an image that was built of its program, and its script,
  pub record HasAdded (names : Names) (old new : Boards) : Type 0 where
    pub image : Vec ℕ Global
    pub script : Script
    pub built : HasText files names.program (λ text. Builds text image.items)
    pub flashed : IsImage image.items
    pub read : IsScriptOf files (Some names.script) script
    pub sound : IsSound script
    pub ends : script.end ≡ until
    pub images : new.images.items ≡ old.images.items ++ image ∷ []
    pub scripts : new.scripts.items ≡ old.scripts.items ++ script ∷ []

  -- and all of these names are.
  pub record AreReady (names : List Names) (boards : Boards) : Type 0 where
    pub sources : List BoardSource
    pub are : Paired IsSourceOf names sources
    pub made : Paired IsBuiltAs sources (setups_of boards.images.items boards.scripts.items)
    pub as_many : length boards.images.items ≡ length names
    pub can_run : CanRun until boards
