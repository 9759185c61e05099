-- The answers over the file of a class, and over its boards: their programs and scripts, in their order.
use Rattle.std.specs.Prelude.{◌≡◌, ◌≢◌, ◌++◌, ℕ, suc, List, [], ◌∷◌, codes, Ok, Err}
use Rattle.serde_json.specs.Data.{Data}
use Rattle.sts_base.specs.declared.tables.Tables.{Tables}
use Rattle.class_world.specs.Lines.{board_lead}
use Rattle.sts_syntax.specs.TypedTrees.{TypedProgram}
use Rattle.event_script.specs.declared.script.Script.{Script}
use Rattle.event_script.specs.declared.script.ScriptCode.{ScriptCode}
use Rattle.event_script.specs.Codes.{number_of}
use Rattle.event_script.specs.Json.{IsTree}
use Rattle.event_script.specs.Verdict.{Tells}
use Rattle.class_file.specs.declared.class.Names.{Names}
use Rattle.class_file.specs.declared.class.ClassFile.{ClassFile}
use Rattle.class_file.specs.declared.class.ClassCode.{ClassCode}
use Rattle.class_file.specs.declared.class.ClassCode.TheVariants.{NotJson, EndDiffers}
use Rattle.class_file.specs.Codes as class_codes
use Rattle.class_file.specs.Verdict as class_file
use Rattle.run_tool.specs.declared.ending.Status.TheVariants as status
use Rattle.run_tool.specs.Answers.{Answer, says, Led}
use Rattle.run_tool.specs.Files.{ToldFiles, AnswersFile, AnswersRead, Reading, code_line}
use Rattle.run_tool.specs.Programs.{AnswersRefusal, programs}
use Rattle.run_tool.specs.Scripts.{RefusesScript}

-- The bytes stand for no class, by this code first: they are no JSON, or their tree breaks the code's rule.
abbrev pub RefusesClass : List ℕ → ClassCode → Type 0
RefusesClass text NotJson = (tree : Data) → ¬ (IsTree text tree)
RefusesClass text code = class_file.Tells text (Err code)

abbrev pub refuses_class : ClassCode → Answer
refuses_class code = says status.ClassRefused (code_line (codes "class refused ") (class_codes.number_of code))

-- a text stands for a class, or for none by a code
abbrev pub classes : Reading ClassFile ClassCode
classes = record { stands_for = λ text class. class_file.Tells text (Ok class); refuses = RefusesClass }

-- the answers to the text of a class, by those over the class
abbrev pub AnswersClassFile : (ClassFile → Answer → Type 0) → List ℕ → Answer → Type 0
AnswersClassFile = AnswersRead classes (λ text code answer. answer ≡ refuses_class code)

-- a board of a class by its source: a program with its texts, and a script
pub record BoardSource : Type 0 where
  pub program : TypedProgram
  pub tables : Tables
  pub script : Script

-- the answers to the text of board b's program: those to the program as which it is accepted, or its first failure behind the board's number
abbrev pub OverBoardProgram : (b : ℕ) → (Tables → TypedProgram → Answer → Type 0) → List ℕ → Answer → Type 0
OverBoardProgram b answers =
    AnswersRead programs
    (λ text cause. Led (board_lead b) (AnswersRefusal text cause.0 cause.1))
    (λ read. answers read.0 read.1)

-- why the text of a script doesn't serve a class: it stands for none, by this code; or for this one, which has another end than the class
pub data Unfit : Type 0 where
  no_script : (code : ScriptCode) → Unfit
  other_end : (script : Script) → Unfit

abbrev pub IsUnfit : (until : ℕ) → List ℕ → Unfit → Type 0
IsUnfit until text (no_script code) = RefusesScript text code
IsUnfit until text (other_end script) = Tells text (Ok script) × (script.end ≢ until)

-- a text stands for a script that ends with the class, or doesn't serve it
abbrev pub board_scripts : (until : ℕ) → Reading Script Unfit
board_scripts until = record {
  stands_for = λ text script. Tells text (Ok script) × (script.end ≡ until);
  refuses = IsUnfit until;
}

-- what is told of board b's script that doesn't serve: the code behind the board's number, or that the end differs
abbrev pub TellsUnfit : (b : ℕ) → Unfit → Answer → Type 0
TellsUnfit b (no_script code) answer =
    answer ≡ says status.ScriptRefused (board_lead b ++ code_line (codes "script refused ") (number_of code))
TellsUnfit b (other_end script) answer = answer ≡ refuses_class EndDiffers

-- the answers to the text of board b's script, by those over the script
abbrev pub AnswersBoardScript : (b until : ℕ) → (Script → Answer → Type 0) → List ℕ → Answer → Type 0
AnswersBoardScript b until = AnswersRead (board_scripts until) (λ text. TellsUnfit b)

-- Over a class with this end:
module _ (files : ToldFiles) (until : ℕ) where
  -- the answers over board b's script,
  abbrev pub OverBoardScript : (b : ℕ) → List ℕ → (Script → Answer → Type 0) → Answer → Type 0
  OverBoardScript b name answers = AnswersFile files name (AnswersBoardScript b until answers)

  -- over its program, and then its script,
  abbrev pub OverBoard : (b : ℕ) → Names → (BoardSource → Answer → Type 0) → Answer → Type 0
  OverBoard b names answers =
      AnswersFile files names.program (OverBoardProgram b (λ tables P.
      OverBoardScript b names.script (λ script. answers (record { program = P; tables = tables; script = script }))))

  -- and over the boards from number b on, one after the other.
  abbrev pub OverBoards : (b : ℕ) → List Names → (List BoardSource → Answer → Type 0) → Answer → Type 0
  OverBoards b [] answers = answers []
  OverBoards b (names ∷ more) answers =
      OverBoard b names (λ board. OverBoards (suc b) more (λ boards. answers (board ∷ boards)))
