-- The statuses of answers over a class.
use Rattle.std.proofs.Common.{◌≡◌, ◌⊎◌, ℕ, suc, List, [], ◌∷◌, inl, inr, sym, ap, ◌∙◌}
use Rattle.std.specs.Prelude.{Bool, true, false, if◌then◌else◌}
use Rattle.std.proofs.lemmas.Bool.{false≢true}
use Rattle.sts_base.specs.declared.tables.Tables.{Tables}
use Rattle.sts_syntax.specs.TypedTrees.{TypedProgram}
use Rattle.event_script.specs.declared.script.Script.{Script}
use Rattle.class_file.specs.declared.class.Names.{Names}
use Rattle.run_tool.specs.declared.ending.Status.{Status}
use Rattle.run_tool.specs.declared.ending.Status.TheVariants as status
use Rattle.run_tool.specs.declared.fetched.Fetched.{Fetched}
use Rattle.run_tool.specs.declared.fetched.Fetched.TheVariants.{Text, Absent, Long, Failed}
use Rattle.run_tool.specs.Files.{ToldFiles, MayFetch, AnswersFetched, AnswersFile}
use Rattle.run_tool.specs.Answers.{Answer, status_of, status_number}
use Rattle.run_tool.specs.ClassBoards.{BoardSource, OverBoardProgram, Unfit, no_script, other_end, TellsUnfit, AnswersBoardScript, OverBoardScript, OverBoard, OverBoards}
use Rattle.class_file.specs.declared.class.ClassFile.{ClassFile}
use Rattle.run_tool.specs.Class.{RunsClass, RunsClassText}

-- the number of a class's status
pub class-number : (file : ClassFile) (boards : List BoardSource) (budget : ℕ) (answer : Answer) (number : ℕ) → RunsClass file boards budget answer → number ≡ status_number (status_of answer) → (number ≡ 0) ⊎ ((number ≡ 3) ⊎ (number ≡ 4))
class-number file boards budget answer number (inr r) e = inr (inr (e ∙ ap (λ a. status_number (status_of a)) r.is))
class-number file boards budget answer number (inl r) e = by_test _ (e ∙ ap (λ a. status_number (status_of a)) r.is)
  where
    by_test : (b : Bool) → number ≡ status_number (if b then status.Done else status.Panicked) → (number ≡ 0) ⊎ ((number ≡ 3) ⊎ (number ≡ 4))
    by_test true h = inl h
    by_test false h = inr (inl h)

-- Of an answer with a status which neither refusals nor runs have, the folder failed, and its failure has it.
module _ (t : Status → Bool) (missing : t status.Missing ≡ false) (long : t status.TooLong ≡ false) (refused : t status.Refused ≡ false) (script : t status.ScriptRefused ≡ false) (class : t status.ClassRefused ≡ false)
    (done : t status.Done ≡ false) (panicked : t status.Panicked ≡ false) (cut : t status.OutOfBudget ≡ false) (files : ToldFiles) (answer : Answer) (i : t (status_of answer) ≡ true) where
  abbrev Failed_so : Type 0
  Failed_so = files.rose × (t status.FolderFailed ≡ true)

  other : (s : Status) → t s ≡ false → status_of answer ≡ s → ⊥
  other s f e = false≢true (sym f ∙ (ap t (sym e) ∙ i))

  in-file : (answers : List ℕ → Answer → Type 0) (name : List ℕ) → ((text : List ℕ) → answers text answer → Failed_so) → AnswersFile files name answers answer → Failed_so
  in-file answers name of_text h = by_fetched h.0 h.1 h.2
    where
      by_fetched : (fetched : Fetched) → MayFetch files name fetched → AnswersFetched answers fetched answer → Failed_so
      by_fetched (Text bytes) m x = of_text bytes.items x
      by_fetched Absent m x = absurd (other status.Missing missing (ap status_of x))
      by_fetched Long m x = absurd (other status.TooLong long (ap status_of x))
      by_fetched Failed m x = (m, ap t (sym (ap status_of x)) ∙ i)

  unfit : (b : ℕ) (cause : Unfit) → TellsUnfit b cause answer → Failed_so
  unfit b (no_script code) x = absurd (other status.ScriptRefused script (ap status_of x))
  unfit b (other_end it) x = absurd (other status.ClassRefused class (ap status_of x))

  in-script : (until b : ℕ) (answers : Script → Answer → Type 0) → ((it : Script) → answers it answer → Failed_so) → (text : List ℕ) → AnswersBoardScript b until answers text answer → Failed_so
  in-script until b answers of_script text (inl x) = of_script x.0 x.2
  in-script until b answers of_script text (inr x) = unfit b x.0 x.2

  in-program : (b : ℕ) (answers : Tables → TypedProgram → Answer → Type 0) → ((tables : Tables) (P : TypedProgram) → answers tables P answer → Failed_so) → (text : List ℕ) → OverBoardProgram b answers text answer → Failed_so
  in-program b answers of_program text (inl x) = of_program x.0.0 x.0.1 x.2
  in-program b answers of_program text (inr x) = (let l = x.2 in let r = l.2 in absurd (other status.Refused refused (ap status_of l.3 ∙ ap status_of r.3)))

  in-board : (until b : ℕ) (names : Names) (answers : BoardSource → Answer → Type 0) → ((board : BoardSource) → answers board answer → Failed_so) → OverBoard files until b names answers answer → Failed_so
  in-board until b names answers of_board h =
      in-file (OverBoardProgram b (λ tables P. OverBoardScript files until b names.script (λ it. answers (record { program = P; tables = tables; script = it })))) names.program
      (λ text x. in-program b (λ tables P. OverBoardScript files until b names.script (λ it. answers (record { program = P; tables = tables; script = it })))
      (λ tables P y. in-file (AnswersBoardScript b until (λ it. answers (record { program = P; tables = tables; script = it }))) names.script
      (λ bytes z. in-script until b (λ it. answers (record { program = P; tables = tables; script = it })) (λ it w. of_board (record { program = P; tables = tables; script = it }) w) bytes z) y) text x) h

  in-boards : (until b : ℕ) (names : List Names) (answers : List BoardSource → Answer → Type 0) → ((boards : List BoardSource) → answers boards answer → Failed_so) → OverBoards files until b names answers answer → Failed_so
  in-boards until b [] answers of_boards h = of_boards [] h
  in-boards until b (n ∷ names) answers of_boards h =
      in-board until b n (λ board. OverBoards files until (suc b) names (λ boards. answers (board ∷ boards)))
      (λ board x. in-boards until (suc b) names (λ boards. answers (board ∷ boards)) (λ boards y. of_boards (board ∷ boards) y) x) h

  in-run : (file : ClassFile) (boards : List BoardSource) (budget : ℕ) → RunsClass file boards budget answer → Failed_so
  in-run file boards budget (inr r) = absurd (other status.OutOfBudget cut (ap status_of r.is))
  in-run file boards budget (inl r) = absurd (by_test _ (ap status_of r.is))
    where
      by_test : (b : Bool) → status_of answer ≡ (if b then status.Done else status.Panicked) → ⊥
      by_test true e = other status.Done done e
      by_test false e = other status.Panicked panicked e

  pub in-class : (budget : ℕ) (text : List ℕ) → RunsClassText files budget text answer → Failed_so
  in-class budget text (inl x) =
      in-boards x.0.end 0 x.0.boards (λ boards. RunsClass x.0 boards budget) (λ boards y. in-run x.0 boards budget y) x.2
  in-class budget text (inr x) = absurd (other status.ClassRefused class (ap status_of x.2))
