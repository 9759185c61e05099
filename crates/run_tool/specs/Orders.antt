-- Which answers are due to the words.
use Rattle.std.specs.Prelude.{◌≡◌, ◌⊎◌, ℕ, false, List, [], codes, Option, Some, None, IsSome}
use Rattle.run_tool.specs.declared.ending.Status.TheVariants.{Usage}
use Rattle.sts_words.specs.Orders.{Asked, check_program, build_program, run_program, run_image, run_at, run_class, run_big}
use Rattle.run_tool.specs.Answers.{Answer, OfSink, says, status_of, status_number}
use Rattle.run_tool.specs.Files.{ToldFiles, unfailing, NeitherFails, AnswersFile}
use Rattle.run_tool.specs.Big.{big_line, big_text}
use Rattle.run_tool.specs.Programs.{ChecksText, BuildsText}
use Rattle.run_tool.specs.Run.{RunsText}
use Rattle.run_tool.specs.Runs.{RunsHex}
use Rattle.run_tool.specs.RunAt.{RunsTextAt}
use Rattle.run_tool.specs.Class.{RunsClassText}

-- the line that stands before each answer; it is written once the program is built, or is refused
abbrev pub lead_of : Option Asked → List ℕ
lead_of (Some (run_big size budget stats)) = big_line size
lead_of other = []

-- The answers that are due to what the words ask for, if they are taken.
abbrev pub MayAnswer : ToldFiles → Option Asked → Answer → Type 0
MayAnswer files None answer = answer ≡ says Usage (codes "usage\n")
MayAnswer files (Some (check_program name)) answer = AnswersFile files name ChecksText answer
MayAnswer files (Some (build_program name)) answer = AnswersFile files name BuildsText answer
MayAnswer files (Some (run_program name script budget stats image)) answer =
    AnswersFile files name (RunsText files script budget stats image) answer
MayAnswer files (Some (run_image name script budget)) answer =
    AnswersFile files name (RunsHex files script budget) answer
MayAnswer files (Some (run_at name script arrivals budget)) answer =
    AnswersFile files name (RunsTextAt files script arrivals budget) answer
MayAnswer files (Some (run_class name budget)) answer = AnswersFile files name (RunsClassText files budget) answer
MayAnswer files (Some (run_big size budget stats)) answer =
    RunsText files None budget stats false (big_text size) answer

-- the status of one of these answers
abbrev pub IsStatusOf : (Answer → Type 0) → ℕ → Type 0
IsStatusOf may number = (answer : Answer) × may answer × (number ≡ status_number (status_of answer))

-- Where no count of faults rises the status is that of an answer that is due where nothing fails, but for want of memory.
abbrev pub CompletesCommand : ToldFiles → OfSink → Option Asked → ℕ → Type 0
CompletesCommand files sink asked number =
    NeitherFails files sink → IsStatusOf (MayAnswer (unfailing files.told) asked) number ⊎ (number ≡ 30)

-- Words ask to run an image; if not, to check, build or run a program, or the one of `big`, or those of a class.
abbrev pub IsOfImage : Asked → Type 0
IsOfImage (run_image name script budget) = Unit {0}
IsOfImage other = ⊥

-- They name a script behind a program or an image, which arrivals may follow; or a class, whose file names scripts.
abbrev pub NamesScript : Asked → Type 0
NamesScript (run_program name script budget stats image) = IsSome script
NamesScript (run_image name script budget) = IsSome script
NamesScript (run_at name script arrivals budget) = Unit {0}
NamesScript (run_class name budget) = Unit {0}
NamesScript other = ⊥
