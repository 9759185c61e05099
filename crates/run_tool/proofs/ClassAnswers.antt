-- Answers over a class, and over its boards.
use Rattle.std.proofs.Common.{◌≡◌, ◌≢◌, ◌+◌, ℕ, suc, List, [], ◌∷◌, ◌++◌, length, inl, inr, refl, ap, ◌∙◌, subst, arith, append_assoc, codes, decimal}
use Rattle.std.specs.Prelude.{Result, Ok, Err, IfOk, IfErr, OnOk, IsOk, MatchResult}
use Rattle.serde_json.specs.Data.{Data}
use Rattle.sts_base.specs.declared.tables.Tables.{Tables}
use Rattle.board_world.specs.Simulation.{Paired}
use Rattle.sts_syntax.specs.TypedTrees.{TypedProgram}
use Rattle.event_script.specs.Json.{IsTree}
use Rattle.event_script.specs.declared.script.Script.{Script}
use Rattle.event_script.specs.Verdict as script_verdict
use Rattle.class_file.specs.Verdict.{Tells}
use Rattle.class_file.specs.declared.class.Names.{Names}
use Rattle.class_file.specs.declared.class.ClassFile.{ClassFile}
use Rattle.class_file.specs.declared.class.ClassCode.{ClassCode}
use Rattle.class_file.specs.declared.class.ClassCode.TheVariants.{NotJson, NotClass, BadCount, EndDiffers}
use Rattle.class_file.specs.declared.class.ClassRefused.{ClassRefused}
use Rattle.class_file.specs.declared.class.ClassRefused.TheVariants.{Class as OfClass}
use Rattle.typed_program.specs.Accepting.{Accepts}
use Rattle.run_tool.specs.Built.{Builds}
use Rattle.run_tool.specs.declared.fetched.Fetched.TheVariants.{Text}
use Rattle.run_tool.specs.Files.{ToldFiles, AnswersFile, code_line}
use Rattle.run_tool.specs.Answers.{Answer}
use Rattle.run_tool.specs.inner.{none_to_read, HasText, IsSourceOf}
use Rattle.run_tool.specs.ClassBoards.{RefusesClass, AnswersClassFile, BoardSource, OverBoardProgram, AnswersBoardScript, OverBoardScript, OverBoard, OverBoards}
use Rattle.run_tool.proofs.Readings.{IsOnward, text-kept, file-onwards, file-more}

pub class-refusal-pieces : (printed code : ℕ) → printed ≡ code → [] ++ codes "class refused " ++ decimal printed ++ codes "\n" ≡ code_line (codes "class refused ") code
class-refusal-pieces printed code e = append_assoc (codes "class refused ") (decimal printed) (codes "\n") ∙ ap (code_line (codes "class refused ")) e

pub board-script-pieces : (lead : List ℕ) (printed code : ℕ) → printed ≡ code → lead ++ codes "script refused " ++ decimal printed ++ codes "\n" ≡ lead ++ code_line (codes "script refused ") code
board-script-pieces lead printed code e =
    append_assoc (lead ++ codes "script refused ") (decimal printed) (codes "\n") ∙ append_assoc lead (codes "script refused ") (decimal printed ++ codes "\n") ∙ ap (λ n. lead ++ code_line (codes "script refused ") n) e

-- why a class is refused
pub refuses-class : (text : List ℕ) (r : Result ClassFile ClassRefused) (code : ClassCode) → r ≡ Err (OfClass code)
    → (r ≡ Err (OfClass NotJson) → (tree : Data) → ¬ (IsTree text tree)) → (r ≡ Err (OfClass NotClass) → Tells text (Err NotClass)) → (r ≡ Err (OfClass BadCount) → Tells text (Err BadCount))
    → r ≢ Err (OfClass EndDiffers) → RefusesClass text code
refuses-class text r NotJson e a b c d = a e
refuses-class text r NotClass e a b c d = b e
refuses-class text r BadCount e a b c d = c e
refuses-class text r EndDiffers e a b c d = absurd (d e)

-- where no class was read, the answer is one of each command
pub no-class : (answers : ClassFile → Answer → Type 0) (text : List ℕ) (answer : Answer) → AnswersClassFile none_to_read text answer → AnswersClassFile answers text answer
no-class answers text answer (inl h) = absurd h.2
no-class answers text answer (inr h) = inr h

pub class-more : (answers more : ClassFile → Answer → Type 0) (text : List ℕ) (answer : Answer) → ((class : ClassFile) → answers class answer → more class answer) → AnswersClassFile answers text answer → AnswersClassFile more text answer
class-more answers more text answer f (inl h) = inl (h.0, h.1, f h.0 h.2)
class-more answers more text answer f (inr h) = inr h

-- where more may be answered of a board's program,
pub board-program-more : (b : ℕ) (answers more : Tables → TypedProgram → Answer → Type 0) (text : List ℕ) (answer : Answer) → ((tables : Tables) (P : TypedProgram) → answers tables P answer → more tables P answer)
    → OverBoardProgram b answers text answer → OverBoardProgram b more text answer
board-program-more b answers more text answer f (inl h) = inl (h.0, h.1, f h.0.0 h.0.1 h.2)
board-program-more b answers more text answer f (inr h) = inr h

pub no-board-program : (b : ℕ) (answers : Tables → TypedProgram → Answer → Type 0) (text : List ℕ) (answer : Answer) → OverBoardProgram b (λ tables. none_to_read) text answer → OverBoardProgram b answers text answer
no-board-program b answers text answer h = board-program-more b (λ tables. none_to_read) answers text answer (λ tables P x. absurd x) h

-- of its script,
pub board-script-more : (b until : ℕ) (answers more : Script → Answer → Type 0) (text : List ℕ) (answer : Answer) → ((script : Script) → answers script answer → more script answer)
    → AnswersBoardScript b until answers text answer → AnswersBoardScript b until more text answer
board-script-more b until answers more text answer f (inl h) = inl (h.0, h.1, f h.0 h.2)
board-script-more b until answers more text answer f (inr h) = inr h

module _ (files : ToldFiles) (until : ℕ) where
  over-script-more : (b : ℕ) (name : List ℕ) (answers more : Script → Answer → Type 0) (answer : Answer) → ((script : Script) → answers script answer → more script answer)
      → OverBoardScript files until b name answers answer → OverBoardScript files until b name more answer
  over-script-more b name answers more answer f h =
      file-more (AnswersBoardScript b until answers) (AnswersBoardScript b until more) files name answer (λ text x. board-script-more b until answers more text answer f x) h

  -- of the board,
  pub over-board-more : (b : ℕ) (names : Names) (answers more : BoardSource → Answer → Type 0) (answer : Answer) → ((board : BoardSource) → answers board answer → more board answer)
      → OverBoard files until b names answers answer → OverBoard files until b names more answer
  over-board-more b names answers more answer f h =
      (let of = λ (which : BoardSource → Answer → Type 0) (tables : Tables) (P : TypedProgram). OverBoardScript files until b names.script (λ script. which (record { program = P; tables = tables; script = script })) in
      file-more (OverBoardProgram b (of answers)) (OverBoardProgram b (of more)) files names.program answer
      (λ text x. board-program-more b (of answers) (of more) text answer
      (λ tables P y. over-script-more b names.script (λ script. answers (record { program = P; tables = tables; script = script })) (λ script. more (record { program = P; tables = tables; script = script })) answer
      (λ script z. f (record { program = P; tables = tables; script = script }) z) y) x) h)

  -- and of the boards from one on
  pub over-boards-more : (b : ℕ) (names : List Names) (answers more : List BoardSource → Answer → Type 0) (answer : Answer) → ((boards : List BoardSource) → answers boards answer → more boards answer)
      → OverBoards files until b names answers answer → OverBoards files until b names more answer
  over-boards-more b [] answers more answer f h = f [] h
  over-boards-more b (n ∷ names) answers more answer f h =
      over-board-more b n (λ board. OverBoards files until (suc b) names (λ boards. answers (board ∷ boards))) (λ board. OverBoards files until (suc b) names (λ boards. more (board ∷ boards))) answer
      (λ board x. over-boards-more (suc b) names (λ boards. answers (board ∷ boards)) (λ boards. more (board ∷ boards)) answer (λ boards y. f (board ∷ boards) y) x) h

  -- the answers over a board of this source
  pub board-read : (b : ℕ) (names : Names) (answers : BoardSource → Answer → Type 0) (board : BoardSource) (answer : Answer) → IsSourceOf files until names board → answers board answer
      → OverBoard files until b names answers answer
  board-read b names answers board answer s h = (Text s.program.0, s.program.1, inl ((board.tables, board.program), s.program.2, (Text s.script.0, s.script.1, inl (board.script, (s.script.2, s.ends), h))))

  -- over boards of which the first have these sources
  pub boards-read : (b k : ℕ) (done more : List Names) (sources : List BoardSource) (answers : List BoardSource → Answer → Type 0) (answer : Answer) → k ≡ b + length done → Paired (IsSourceOf files until) done sources
      → OverBoards files until k more (λ boards. answers (sources ++ boards)) answer → OverBoards files until b (done ++ more) answers answer
  boards-read b k [] more [] answers answer e p h = subst (λ n. OverBoards files until n more answers answer) (let z : k ≡ b = omega (arith, e) in z) h
  boards-read b k [] more (s ∷ sources) answers answer e p h = absurd p
  boards-read b k (n ∷ done) more [] answers answer e p h = absurd p
  boards-read b k (n ∷ done) more (s ∷ sources) answers answer e p h =
      board-read b n (λ board. OverBoards files until (suc b) (done ++ more) (λ boards. answers (board ∷ boards))) s answer p.0
      (boards-read (suc b) k done more sources (λ boards. answers (s ∷ boards)) answer (let z : k ≡ suc b + length done = omega (arith, e) in z) p.1 h)

  -- over boards of which one was answered behind those
  pub boards-stop : (k : ℕ) (done : List Names) (n : Names) (more : List Names) (sources : List BoardSource) (answers : List BoardSource → Answer → Type 0) (answer : Answer) → k ≡ length done
      → Paired (IsSourceOf files until) done sources → OverBoard files until k n none_to_read answer → OverBoards files until 0 (done ++ n ∷ more) answers answer
  boards-stop k done n more sources answers answer e p h =
      boards-read 0 k done (n ∷ more) sources answers answer (let z : k ≡ 0 + length done = omega (arith, e) in z) p
      (over-board-more k n none_to_read (λ board. OverBoards files until (suc k) more (λ boards. answers (sources ++ board ∷ boards))) answer (λ board x. absurd x) h)

-- where a folder tells the same and failed no less
module _ (files files' : ToldFiles) (until : ℕ) (on : IsOnward files files') where
  pub board-script-onwards : (b : ℕ) (name : List ℕ) (answers : Script → Answer → Type 0) (answer : Answer) → OverBoardScript files until b name answers answer → OverBoardScript files' until b name answers answer
  board-script-onwards b name answers answer h = file-onwards (AnswersBoardScript b until answers) files files' name answer on h

  pub board-onwards : (b : ℕ) (names : Names) (answers : BoardSource → Answer → Type 0) (answer : Answer) → OverBoard files until b names answers answer → OverBoard files' until b names answers answer
  board-onwards b names answers answer h =
      (let of = λ (tables : Tables) (P : TypedProgram). OverBoardScript files until b names.script (λ script. answers (record { program = P; tables = tables; script = script })) in
      let of' = λ (tables : Tables) (P : TypedProgram). OverBoardScript files' until b names.script (λ script. answers (record { program = P; tables = tables; script = script })) in
      file-more (OverBoardProgram b of) (OverBoardProgram b of') files' names.program answer
      (λ text x. board-program-more b of of' text answer
      (λ tables P y. board-script-onwards b names.script (λ script. answers (record { program = P; tables = tables; script = script })) answer y) x)
      (file-onwards (OverBoardProgram b of) files files' names.program answer on h))

  pub boards-onwards : (b : ℕ) (names : List Names) (answers : List BoardSource → Answer → Type 0) (answer : Answer) → OverBoards files until b names answers answer → OverBoards files' until b names answers answer
  boards-onwards b [] answers answer h = h
  boards-onwards b (n ∷ names) answers answer h =
      over-board-more files' until b n (λ board. OverBoards files until (suc b) names (λ boards. answers (board ∷ boards))) (λ board. OverBoards files' until (suc b) names (λ boards. answers (board ∷ boards))) answer
      (λ board x. boards-onwards (suc b) names (λ boards. answers (board ∷ boards)) answer x)
      (board-onwards b n (λ board. OverBoards files until (suc b) names (λ boards. answers (board ∷ boards))) answer h)

  pub source-onwards : (names : Names) (board : BoardSource) → IsSourceOf files until names board → IsSourceOf files' until names board
  source-onwards names board s = record {
    program = text-kept files files' on names.program (λ text. Accepts text board.tables board.program) s.program;
    script = text-kept files files' on names.script (λ text. script_verdict.Tells text (Ok board.script)) s.script;
    ends = s.ends;
  }

pub image-onwards : (files files' : ToldFiles) → IsOnward files files' → (name image : List ℕ) → HasText files name (λ text. Builds text image) → HasText files' name (λ text. Builds text image)
image-onwards files files' on name image s = text-kept files files' on name (λ text. Builds text image) s

-- where a board's program wasn't accepted, or its script wasn't read, the answer is one over the board
pub board-refused : (files : ToldFiles) (until b : ℕ) (names : Names) (answer : Answer) → AnswersFile files names.program (OverBoardProgram b (λ tables. none_to_read)) answer → OverBoard files until b names none_to_read answer
board-refused files until b names answer h =
    (let of = λ (tables : Tables) (P : TypedProgram). OverBoardScript files until b names.script none_to_read in
    file-more (OverBoardProgram b (λ tables. none_to_read)) (OverBoardProgram b of) files names.program answer (λ text x. no-board-program b of text answer x) h)

pub script-answered : (files mid now : ToldFiles) (until : ℕ) → IsOnward mid now → (b : ℕ) (names : Names) (image : List ℕ) → HasText files names.program (λ text. Builds text image) → IsOnward files now
    → (answer : Answer) → OverBoardScript mid until b names.script none_to_read answer → OverBoard now until b names none_to_read answer
script-answered files mid now until on b names image i was answer h =
    (let there = image-onwards files now was names.program image i in
    (Text there.0, there.1, inl ((there.2.tables, there.2.program), there.2.accepted, board-script-onwards mid now until on b names.script none_to_read answer h)))

-- two facts of what was read, or of how the call ended

pub ok-so : {T E : Type 0} {P R : T → Type 0} {Q : Type 0} (r : Result T E) → ((x : T) → P x → Q → R x) → IfOk r P → OnOk r Q → IfOk r R
ok-so (Ok x) f p q = f x p q
ok-so (Err x) f p q = tt

pub if-errs : {T E : Type 0} {P Q R : E → Type 0} (r : Result T E) → ((x : E) → P x → Q x → R x) → IfErr r P → IfErr r Q → IfErr r R
if-errs (Ok x) f p q = tt
if-errs (Err x) f p q = f x p q

-- what is text is read as that text
pub text-is-ok : {T C : Type 0} (r : Result T C) (P : T → Type 0) (B : Type 0) (Q : C → Type 0) → MatchResult r P (λ e. ¬ B × Q e) → B → IsOk r
text-is-ok (Ok x) P B Q h b = refl
text-is-ok (Err x) P B Q h b = absurd (h.0 b)

pub text-of-ok : {T C : Type 0} (r : Result T C) (x : T) (P : T → Type 0) (Q : C → Type 0) → r ≡ Ok x → MatchResult r P Q → P x
text-of-ok r x P Q e h = subst (λ s. MatchResult s P Q) e h

pub on-ok : {T C : Type 0} {P Q : Type 0} (r : Result T C) → (P → Q) → OnOk r P → OnOk r Q
on-ok (Ok x) f p = f p
on-ok (Err x) f p = tt

pub on-oks : {T C : Type 0} {P Q R : Type 0} (r : Result T C) → (P → Q → R) → OnOk r P → OnOk r Q → OnOk r R
on-oks (Ok x) f p q = f p q
on-oks (Err x) f p q = tt
