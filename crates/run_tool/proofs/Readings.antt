-- Files that are fetched and read, and the answers to them.
use Rattle.std.proofs.Common.{◌≡◌, ◌≤◌, ℕ, List, inl, inr, refl, subst}
use Rattle.std.specs.Prelude.{Option, codes}
use Rattle.board_world.specs.Observations.{ByteList}
use Rattle.sts_syntax.specs.TypedTrees.{TypedProgram}
use Rattle.tool_io.proofs.Laws.{rose-before, rose-after}
use Rattle.run_tool.specs.declared.fetched.Fetched.{Fetched}
use Rattle.run_tool.specs.declared.fetched.Fetched.TheVariants.{Text, Absent, Long, Failed}
use Rattle.run_tool.specs.declared.ending.Status.TheVariants.{Done}
use Rattle.run_tool.specs.Answers.{Answer, says}
use Rattle.run_tool.specs.Files.{ToldFiles, told_by, unfailing, MayFetch, AnswersFetched, AnswersFile}
use Rattle.run_tool.specs.Programs.{OverProgram}
use Rattle.run_tool.specs.inner.{HasText}

-- `check` says that a program is accepted
abbrev pub SaysAccepted : TypedProgram → List ByteList → Answer → Type 0
SaysAccepted P texts answer = answer ≡ says Done (codes "accepted\n")

-- a folder tells the same, and failed no less
abbrev pub IsOnward : ToldFiles → ToldFiles → Type 0
IsOnward files files' = ((file : List ℕ) → files.told file ≡ files'.told file) × (files.rose → files'.rose)

-- as where nothing fails, where it didn't
pub quietly : (files : ToldFiles) → ¬ files.rose → IsOnward files (unfailing files.told)
quietly files quiet = (λ file. refl, quiet)

pub fetch-onwards : (files files' : ToldFiles) (name : List ℕ) (fetched : Fetched) → IsOnward files files' → MayFetch files name fetched → MayFetch files' name fetched
fetch-onwards files files' name (Text bytes) on m = subst (λ (t : Option (Option (List ℕ))). MayFetch (record { told = λ file. t; rose = files'.rose }) name (Text bytes)) (on.0 name) m
fetch-onwards files files' name Absent on m = subst (λ (t : Option (Option (List ℕ))). MayFetch (record { told = λ file. t; rose = files'.rose }) name Absent) (on.0 name) m
fetch-onwards files files' name Long on m = subst (λ (t : Option (Option (List ℕ))). MayFetch (record { told = λ file. t; rose = files'.rose }) name Long) (on.0 name) m
fetch-onwards files files' name Failed on m = on.1 m

-- a text that was fetched was fetched then too
pub text-kept : (files files' : ToldFiles) → IsOnward files files' → (name : List ℕ) (Such : List ℕ → Type 0) → HasText files name Such → HasText files' name Such
text-kept files files' on name Such s = (s.0, fetch-onwards files files' name (Text s.0) on s.1, s.2)

-- over a folder in the first part of a call, or in the last one, and in the whole of it
module _ {S : Type 0} (holds : S → List ℕ → Option (Option (List ℕ))) (faults : S → ℕ) (old mid new : S) where
  pub first-part : faults mid ≤ faults new → IsOnward (told_by holds faults old mid) (told_by holds faults old new)
  first-part later = (λ file. refl, λ r. rose-after (faults old) (faults mid) (faults new) r later)

  pub last-part : ((file : List ℕ) → holds mid file ≡ holds old file) → faults old ≤ faults mid → IsOnward (told_by holds faults mid new) (told_by holds faults old new)
  last-part same later = (same, λ r. rose-before (faults old) (faults mid) (faults new) later r)

pub file-onwards : (answers : List ℕ → Answer → Type 0) (files files' : ToldFiles) (name : List ℕ) (answer : Answer) → IsOnward files files' → AnswersFile files name answers answer → AnswersFile files' name answers answer
file-onwards answers files files' name answer on h = (h.0, fetch-onwards files files' name h.0 on h.1, h.2)

-- where more answers may be given to a text
pub file-more : (answers more : List ℕ → Answer → Type 0) (files : ToldFiles) (name : List ℕ) (answer : Answer) → ((text : List ℕ) → answers text answer → more text answer)
    → AnswersFile files name answers answer → AnswersFile files name more answer
file-more answers more files name answer f h = (h.0, h.1, by_fetched h.0 h.2)
  where
    by_fetched : (fetched : Fetched) → AnswersFetched answers fetched answer → AnswersFetched more fetched answer
    by_fetched (Text bytes) x = f bytes.items x
    by_fetched Absent x = x
    by_fetched Long x = x
    by_fetched Failed x = x

-- or to the program as which a text is accepted
pub program-more : (answers more : TypedProgram → List ByteList → Answer → Type 0) (text : List ℕ) (answer : Answer) → ((P : TypedProgram) (texts : List ByteList) → answers P texts answer → more P texts answer)
    → OverProgram answers text answer → OverProgram more text answer
program-more answers more text answer f (inl h) = inl (h.0, h.1, f h.0.1 h.0.0.texts h.2)
program-more answers more text answer f (inr h) = inr h
