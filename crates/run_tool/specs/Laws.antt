-- What holds of the answers, and which statuses a command may end with where nothing stands in its way.
use Rattle.std.specs.Prelude.{◌≡◌, ◌++◌, ℕ, Bool, List, Option, None, ◌⊎◌, Some}
use Rattle.sts_base.specs.declared.refused.Code.{Code}
use Rattle.sts_base.specs.declared.tables.Tables.{Tables}
use Rattle.board_world.specs.Observations.{ByteList}
use Rattle.sts_syntax.specs.TypedTrees.{TypedProgram}
use Rattle.sts_whole.specs.Compiled.{IsBuiltFor}
use Rattle.typed_program.specs.Accepting.{Accepts, IsRefusedFor}
use Rattle.hex_image.specs.declared.refused.HexCode.{HexCode}
use Rattle.hex_image.specs.Spells.{Spells, Breaks}
use Rattle.run_tool.specs.Answers.{Answer, output_of, OfSink}
use Rattle.run_tool.specs.Files.{Telling, unfailing, ToldFiles, NeitherFails, IsToldWithin}
use Rattle.run_tool.specs.Programs.{ChecksText, BuildsText, IsToldProgram}
use Rattle.run_tool.specs.Run.{RunsText}
use Rattle.run_tool.specs.Runs.{IsProgramStatus, IsImageStatus, RunsHex}
use Rattle.run_tool.specs.RunAt.{RunsTextAt, AreTold}
use Rattle.run_tool.specs.Orders.{IsStatusOf}
use Rattle.event_script.specs.declared.script.Script.{Script}
use Rattle.sts_words.specs.Orders.{Asked, check_program, build_program, run_program, run_image, run_at, run_class, run_big}
use Rattle.run_tool.specs.Scripts.{IsToldScript}
use Rattle.run_tool.specs.Big.{big_text}
use Rattle.arrival_file.specs.declared.arrival.Arrival.{Arrival}
use Rattle.class_file.specs.declared.class.ClassFile.{ClassFile}
use Rattle.run_tool.specs.ClassBoards.{BoardSource}
use Rattle.run_tool.specs.Class.{IsToldClass}

-- The status of an answer of `run-hex` is that of a run where the text spells an image and no script is named, and that of a refusal where the text
-- breaks a rule.
pub record HexStatuses (told : Telling) (budget : ℕ) (text : List ℕ) : Type 0 where
  pub spelled : (image : List ℕ) (number : ℕ) → Spells text image
      → IsStatusOf (RunsHex (unfailing told) None budget text) number
      → IsImageStatus number
  pub broken : (script : Option (List ℕ)) (code : HexCode) (number : ℕ) → Breaks text code
      → IsStatusOf (RunsHex (unfailing told) script budget text) number → number ≡ 12

-- The status of an answer over a program is that of what was done, or of a run, where the text is accepted and no script is named, and that of a refusal where the text isn't accepted.
pub record ProgramStatuses (told : Telling) (text : List ℕ) : Type 0 where
  pub checked : (tables : Tables) (P : TypedProgram) (number : ℕ) → Accepts text tables P
      → IsStatusOf (ChecksText text) number → number ≡ 0
  pub built : (tables : Tables) (P : TypedProgram) (number : ℕ) → Accepts text tables P
      → IsStatusOf (BuildsText text) number → number ≡ 0
  pub ran : (tables : Tables) (P : TypedProgram) (budget : ℕ) (stats image : Bool) (number : ℕ) → Accepts text tables P
      → IsStatusOf (RunsText (unfailing told) None budget stats image text) number
      → IsProgramStatus number
  pub not_checked : (code : Code) (at number : ℕ) → IsRefusedFor text code at
      → IsStatusOf (ChecksText text) number → number ≡ 10
  pub not_built : (code : Code) (at number : ℕ) → IsRefusedFor text code at
      → IsStatusOf (BuildsText text) number → number ≡ 10
  pub not_run : (code : Code) (at : ℕ) (script : Option (List ℕ)) (budget : ℕ) (stats image : Bool) (number : ℕ)
      → IsRefusedFor text code at
      → IsStatusOf (RunsText (unfailing told) script budget stats image text) number → number ≡ 10
  pub not_run_at : (code : Code) (at : ℕ) (script arrivals : List ℕ) (budget number : ℕ) → IsRefusedFor text code at
      → IsStatusOf (RunsTextAt (unfailing told) script arrivals budget text) number → number ≡ 10

-- What `build` writes of a program spells the image that is built of it, and no other image.
pub record WritesReadable (P : TypedProgram) (texts : List ByteList) (answer : Answer) : Type 0 where
  pub image : List ℕ
  pub built : IsBuiltFor P texts image
  pub spelled : Spells (output_of answer) image
  pub only : (other : List ℕ) → Spells (output_of answer) other → other ≡ image

-- The file of this name has the text of some program that is accepted; or there is some script.
abbrev pub HoldsProgram : Telling → List ℕ → Type 0
HoldsProgram told name = (tables : Tables) × (P : TypedProgram) × IsToldProgram told name tables P

abbrev pub HoldsScript : Telling → Option (List ℕ) → Type 0
HoldsScript told name = (script : Script) × IsToldScript told name script

-- What is written ends with what `build` wrote.
abbrev pub EndsWithBuilt : Answer → Answer → Type 0
EndsWithBuilt answer built = (front : List ℕ) × (output_of answer ≡ front ++ output_of built)

-- Each file that the words name is told: the program's text is accepted, the image's spells one, and the script's, the arrivals' and the class's stand for some, and so are those that the class names.
abbrev pub HoldsFiles : Telling → Asked → Type 0
HoldsFiles told (check_program name) = HoldsProgram told name
HoldsFiles told (build_program name) = HoldsProgram told name
HoldsFiles told (run_program name script budget stats image) = HoldsProgram told name × HoldsScript told script
HoldsFiles told (run_image name script budget) =
    ((image : List ℕ) × IsToldWithin told name (λ text. Spells text image)) × HoldsScript told script
HoldsFiles told (run_at name script arrivals budget) =
    (tables : Tables) × (P : TypedProgram) × (read : Script) × (come : List Arrival)
    × AreTold told name script arrivals tables P read come
HoldsFiles told (run_class name budget) =
    (file : ClassFile) × (boards : List BoardSource) × IsToldClass told name file boards
HoldsFiles told (run_big size budget stats) =
    (tables : Tables) × (P : TypedProgram) × Accepts (big_text size) tables P

abbrev pub MayEndWith : Asked → ℕ → Type 0
MayEndWith (check_program name) number = number ≡ 0
MayEndWith (build_program name) number = number ≡ 0
MayEndWith (run_image name script budget) number = IsImageStatus number
MayEndWith other number = IsProgramStatus number

-- Where the files are so, and no count of faults rose, of the folder or the sink, a call ends with such a status, or for want of memory.
abbrev pub IsComplete : ToldFiles → OfSink → Option Asked → ℕ → Type 0
IsComplete files sink asked number =
    (order : Asked) → asked ≡ Some order → HoldsFiles files.told order
    → NeitherFails files sink → MayEndWith order number ⊎ (number ≡ 30)
