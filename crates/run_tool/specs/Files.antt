-- What a fetch of a file may come to, and the answers of a command to that, and to what the file's text stands for.
use Rattle.std.specs.Prelude.{◌≡◌, ◌<◌, ◌≤◌, ◌⊎◌, ◌++◌, ℕ, List, length, codes, Option, Some, None}
use Rattle.std.specs.Option.{ForSome}
use Rattle.sts_base.specs.Faults.{Rose}
use Rattle.board_world.specs.Transcript.{count_text}
use Rattle.run_tool.specs.declared.ending.Status.TheVariants.{FolderFailed, Missing, TooLong}
use Rattle.run_tool.specs.declared.fetched.Fetched.{Fetched}
use Rattle.run_tool.specs.declared.fetched.Fetched.TheVariants.{Text, Absent, Long, Failed}
use Rattle.run_tool.specs.Answers.{Answer, OfSink, says}

-- what is told of files by their names: nothing, that there is none, or its bytes
abbrev pub Telling : Type 0
Telling = List ℕ → Option (Option (List ℕ))

-- What a folder tells of its files where a call begins; and that its count of faults rose in the call.
pub record ToldFiles : Type 1 where
  pub told : Telling
  pub rose : Type 0

-- the same of a folder, before and after a call, of which `holds` tells the content and `faults` how often it had failed
abbrev pub told_by : {S : Type 0} → (S → Telling) → (S → ℕ) → S → S → ToldFiles
told_by holds faults old new = record { told = holds old; rose = Rose (faults old) (faults new) }

-- a folder that tells this, and doesn't fail
abbrev pub unfailing : Telling → ToldFiles
unfailing told = record { told = told; rose = ⊥ }

-- Neither the folder's count of faults rose nor the sink's.
abbrev pub NeitherFails : ToldFiles → OfSink → Type 0
NeitherFails files sink = ¬ files.rose × ¬ Rose sink.faults_before sink.faults_after

-- the most bytes that a file may have
abbrev pub limit : ℕ
limit = 1048576

-- What a fetch of the file of this name may come to: its bytes within the limit, that it is absent or too long, or a failure where the folder's
-- count of faults rose.
abbrev pub MayFetch : ToldFiles → List ℕ → Fetched → Type 0
MayFetch files name (Text bytes) =
    ForSome (files.told name) (λ content. content ≡ Some bytes.items) × (length bytes.items ≤ limit)
MayFetch files name Absent = ForSome (files.told name) (λ content. content ≡ None)
MayFetch files name Long =
    ForSome (files.told name) (λ content. (bytes : List ℕ) × (content ≡ Some bytes) × (limit < length bytes))
MayFetch files name Failed = files.rose

-- There is a file of this name with such bytes,
abbrev pub IsTold : Telling → List ℕ → (List ℕ → Type 0) → Type 0
IsTold told name Such = (bytes : List ℕ) × (told name ≡ Some (Some bytes)) × Such bytes

-- and they are within the limit of files.
abbrev pub IsToldWithin : Telling → List ℕ → (List ℕ → Type 0) → Type 0
IsToldWithin told name Such = IsTold told name (λ bytes. (length bytes ≤ limit) × Such bytes)

-- the answers of a command to what a fetch came to, by its answers to a text
abbrev pub AnswersFetched : (List ℕ → Answer → Type 0) → Fetched → Answer → Type 0
AnswersFetched answers (Text bytes) answer = answers bytes.items answer
AnswersFetched answers Absent answer = answer ≡ says Missing (codes "missing\n")
AnswersFetched answers Long answer = answer ≡ says TooLong (codes "too long\n")
AnswersFetched answers Failed answer = answer ≡ says FolderFailed (codes "folder failed\n")

-- the answers of a command to the file of this name
abbrev pub AnswersFile : ToldFiles → List ℕ → (List ℕ → Answer → Type 0) → Answer → Type 0
AnswersFile files name answers answer =
    (fetched : Fetched) × MayFetch files name fetched × AnswersFetched answers fetched answer

-- A kind of texts: what one stands for, or the cause by which it stands for nothing.
pub record Reading (T C : Type 0) : Type 1 where
  pub stands_for : List ℕ → T → Type 0
  pub refuses : List ℕ → C → Type 0

-- the answers to a text of such a kind, by those to what it stands for, and to the cause by which it stands for nothing
abbrev pub AnswersRead : {T C : Type 0} → Reading T C
    → (tells : List ℕ → C → Answer → Type 0) → (T → Answer → Type 0) → List ℕ → Answer → Type 0
AnswersRead {T} {C} reading tells answers text answer =
    ((read : T) × reading.stands_for text read × answers read answer)
    ⊎ ((cause : C) × reading.refuses text cause × tells text cause answer)

-- the line of a refusal: these words, as `script refused `, and the number of the code
abbrev pub code_line : List ℕ → ℕ → List ℕ
code_line words code = words ++ (count_text code ++ codes "\n")
