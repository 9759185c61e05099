-- The answers to the text of a program; those of `check` and `build`.
use Rattle.std.specs.Prelude.{◌≡◌, ◌++◌, ℕ, List, codes}
use Rattle.sts_base.specs.declared.refused.Code.{Code}
use Rattle.sts_base.specs.declared.tables.Tables.{Tables}
use Rattle.sts_base.specs.Numbers.{number_of}
use Rattle.sts_base.specs.Places.{IsPlace}
use Rattle.board_world.specs.Observations.{ByteList}
use Rattle.board_world.specs.Transcript.{count_text}
use Rattle.sts_syntax.specs.TypedTrees.{TypedProgram}
use Rattle.hex_image.specs.Laws.{IsImage}
use Rattle.hex_image.specs.Writing.{hextext}
use Rattle.typed_program.specs.Accepting.{Accepts, IsRefusedFor}
use Rattle.sts_whole.specs.Compiled.{IsBuiltFor}
use Rattle.run_tool.specs.declared.ending.Status.TheVariants.{Done, Refused}
use Rattle.run_tool.specs.Answers.{Answer, says}
use Rattle.run_tool.specs.Files.{Telling, IsTold, Reading, AnswersRead}

-- `refused C L K`
abbrev pub refused_line : ℕ → ℕ → ℕ → List ℕ
refused_line code line column = codes "refused " ++ (count_text code
    ++ (codes " " ++ (count_text line ++ (codes " " ++ (count_text column ++ codes "\n")))))

-- The answer is a refusal of the text by this code at this place.
abbrev pub AnswersRefusal : List ℕ → Code → ℕ → Answer → Type 0
AnswersRefusal text code at answer = (line : ℕ) × (column : ℕ) × IsPlace text at line column
    × (answer ≡ says Refused (refused_line (number_of code) line column))

-- A text is accepted as a program with its tables; or this is its first failure, by its code and its place.
abbrev pub programs : Reading (Tables × TypedProgram) (Code × ℕ)
programs = record {
  stands_for = λ text read. Accepts text read.0 read.1;
  refuses = λ text cause. IsRefusedFor text cause.0 cause.1;
}

-- The text of the file of this name is told, and accepted as this program.
abbrev pub IsToldProgram : Telling → List ℕ → Tables → TypedProgram → Type 0
IsToldProgram told name tables P = IsTold told name (λ text. Accepts text tables P)

-- the answers to a text, by those to the program as which it is accepted, with its texts; or its first failure
abbrev pub OverProgram : (TypedProgram → List ByteList → Answer → Type 0) → List ℕ → Answer → Type 0
OverProgram answers =
    AnswersRead programs (λ text cause. AnswersRefusal text cause.0 cause.1) (λ read. answers read.1 read.0.texts)

-- `check` says that a program is accepted.
abbrev pub ChecksText : List ℕ → Answer → Type 0
ChecksText = OverProgram (λ P texts answer. answer ≡ says Done (codes "accepted\n"))

-- `build` writes the HEX text of the program's image, of bytes and within flash, which implements it.
abbrev pub WritesImage : TypedProgram → List ByteList → Answer → Type 0
WritesImage P texts answer =
    (image : List ℕ) × IsImage image × IsBuiltFor P texts image × (answer ≡ says Done (hextext image))

abbrev pub BuildsText : List ℕ → Answer → Type 0
BuildsText = OverProgram WritesImage
