-- The answers over a script.
use Rattle.std.specs.Prelude.{◌≡◌, ℕ, List, [], codes, Option, Some, None, Ok, Err}
use Rattle.serde_json.specs.Data.{Data}
use Rattle.event_script.specs.declared.script.Script.{Script}
use Rattle.event_script.specs.declared.script.ScriptCode.{ScriptCode}
use Rattle.event_script.specs.declared.script.ScriptCode.TheVariants.{NotJson}
use Rattle.event_script.specs.Codes.{number_of}
use Rattle.event_script.specs.Json.{IsTree}
use Rattle.event_script.specs.Verdict.{Tells}
use Rattle.run_tool.specs.declared.ending.Status.TheVariants as status
use Rattle.run_tool.specs.Answers.{Answer, says}
use Rattle.run_tool.specs.Files.{Telling, ToldFiles, IsToldWithin, AnswersFile, AnswersRead, Reading, code_line}

-- the script where none is named: it has no entries, and ends at 1000 ms
abbrev pub default_script : Script
default_script = record { end = 1000; entries = [] }

-- The bytes stand for no script, by this code first: they are no JSON, or their tree breaks the code's rule.
abbrev pub RefusesScript : List ℕ → ScriptCode → Type 0
RefusesScript text NotJson = (tree : Data) → ¬ (IsTree text tree)
RefusesScript text code = Tells text (Err code)

-- a text stands for a script, or for none by a code
abbrev pub scripts : Reading Script ScriptCode
scripts = record { stands_for = λ text script. Tells text (Ok script); refuses = RefusesScript }

-- the answers to the text of a script, by those over the script
abbrev pub AnswersScript : (Script → Answer → Type 0) → List ℕ → Answer → Type 0
AnswersScript = AnswersRead scripts
    (λ text code answer. answer ≡ says status.ScriptRefused (code_line (codes "script refused ") (number_of code)))

-- the answers over the script whose file is named, or over the one of no name
abbrev pub OverScript : ToldFiles → Option (List ℕ) → (Script → Answer → Type 0) → Answer → Type 0
OverScript files None answers = answers default_script
OverScript files (Some name) answers = AnswersFile files name (AnswersScript answers)

-- The script that words name is told: the one that the file stands for, or without a name the one that is run then.
abbrev pub IsToldScript : Telling → Option (List ℕ) → Script → Type 0
IsToldScript told None script = script ≡ default_script
IsToldScript told (Some name) script = IsToldWithin told name (λ text. Tells text (Ok script))
