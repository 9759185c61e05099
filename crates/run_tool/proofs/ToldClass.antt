-- What `class` comes to over files that are told.
use Rattle.std.proofs.Common.{◌≡◌, ◌⊎◌, ℕ, suc, List, [], ◌∷◌, inl, inr, refl, sym, ap, ◌∙◌, subst}
use Rattle.std.specs.Prelude.{Option, Some, Result, Ok}
use Rattle.sts_base.specs.Faults.{Rose}
use Rattle.sts_base.specs.declared.tables.Tables.{Tables}
use Rattle.tool_io.specs.Putting.{Took}
use Rattle.board_world.specs.Observations.{ByteList}
use Rattle.board_world.specs.Simulation.{Paired}
use Rattle.sts_syntax.specs.TypedTrees.{TypedProgram}
use Rattle.event_script.specs.declared.script.Script.{Script}
use Rattle.event_script.specs.Verdict as scripts
use Rattle.class_file.specs.Verdict as class
use Rattle.class_file.specs.Form.{class_of}
use Rattle.class_file.specs.declared.class.Names.{Names}
use Rattle.class_file.specs.declared.class.ClassFile.{ClassFile}
use Rattle.class_file.specs.declared.class.ClassCode.{ClassCode}
use Rattle.class_file.specs.declared.class.ClassCode.TheVariants as class_code
use Rattle.typed_program.specs.Laws.{OneAnswer}
use Rattle.sts_words.specs.Orders.{Asked, run_class}
use Rattle.run_tool.specs.declared.ending.Ending.{Ending}
use Rattle.run_tool.specs.declared.ending.Ending.TheVariants.{Gave, Cut, NoMemory}
use Rattle.run_tool.specs.Answers.{Answer, status_of, status_number, output_of, OfSink, OfDevices, Leaves, CommandEnds, Concludes, ending_number}
use Rattle.run_tool.specs.Files.{Telling, ToldFiles, unfailing}
use Rattle.run_tool.specs.ClassBoards.{RefusesClass, BoardSource, OverBoardProgram, Unfit, no_script, other_end, IsUnfit, AnswersBoardScript, OverBoardScript, OverBoard, OverBoards}
use Rattle.run_tool.specs.Class.{RunsClass, RunsFile, RunsClassText, IsToldBoard, IsToldClass, Extent, whole, cut, IsClassText, IsRunOfImages, HeadlineClass}
use Rattle.run_tool.specs.Orders.{MayAnswer, lead_of}
use Rattle.run_tool.proofs.Completing.{onwards}
use Rattle.run_tool.proofs.Headlines.{one-tree, one-script, not-refused, file-told, program-fits, never}
use Rattle.run_tool.proofs.ToldAt.{not-both, same-read}

-- a text of a class has one verdict
one-class : (text : List ℕ) (a b : Result ClassFile ClassCode) → class.Tells text a → class.Tells text b → a ≡ b
one-class text a b s t = sym s.judges ∙ (ap (λ d. class.judged_form (class_of d)) (one-tree text s.tree t.tree s.is t.is) ∙ t.judges)

class-stands : (text : List ℕ) (file : ClassFile) (code : ClassCode) → class.Tells text (Ok file) → RefusesClass text code → ⊥
class-stands text file class_code.NotJson s r = r s.tree s.is
class-stands text file class_code.NotClass s r = not-both file class_code.NotClass (one-class text _ _ s r)
class-stands text file class_code.BadCount s r = not-both file class_code.BadCount (one-class text _ _ s r)
class-stands text file class_code.EndDiffers s r = not-both file class_code.EndDiffers (one-class text _ _ s r)

-- the answers over a board, once its program is known
abbrev over : (BoardSource → Answer → Type 0) → Tables → TypedProgram → Script → Answer → Type 0
over answers tables P script = answers (record { program = P; tables = tables; script = script })

module _ (one : OneAnswer) (told : Telling) (until : ℕ) where
  -- the answers over a board that is told
  board-due : (b : ℕ) (names : Names) (board : BoardSource) (answers : BoardSource → Answer → Type 0) (answer : Answer) → IsToldBoard told until names board → OverBoard (unfailing told) until b names answers answer → answers board answer
  board-due b names board answers answer n h = of_program (file-told (OverBoardProgram b (λ tables P. OverBoardScript (unfailing told) until b names.script (over answers tables P))) (unfailing told) names.program n.program.0 answer n.program.1 (program-fits n.program.0 board.tables board.program n.program.2) never h)
    where
      same_as : (script : Script) → scripts.Tells n.script.0 (Ok script) → script ≡ board.script
      same_as script s = one-script n.script.0 script board.script s n.script.2.1

      serves : (cause : Unfit) → IsUnfit until n.script.0 cause → ⊥
      serves (no_script code) x = not-refused n.script.0 board.script code n.script.2.1 x
      serves (other_end script) x = x.1 (ap (λ (s : Script). s.end) (same_as script x.0) ∙ n.ends)

      of_script : AnswersBoardScript b until (over answers board.tables board.program) n.script.0 answer → answers board answer
      of_script (inl x) = subst (λ s. over answers board.tables board.program s answer) (same_as x.0 x.1.0) x.2
      of_script (inr x) = absurd (serves x.0 x.1)

      of_program : OverBoardProgram b (λ tables P. OverBoardScript (unfailing told) until b names.script (over answers tables P)) n.program.0 answer → answers board answer
      of_program (inl x) =
          (let same = one.program n.program.0 board.tables x.0.0 board.program x.0.1 n.program.2 x.1 in
          of_script (file-told (AnswersBoardScript b until (over answers board.tables board.program)) (unfailing told) names.script n.script.0 answer n.script.1 n.script.2.0 never
          (subst (λ (t : Tables). OverBoardScript (unfailing told) until b names.script (over answers t board.program) answer) (sym same.0)
          (subst (λ (P : TypedProgram). OverBoardScript (unfailing told) until b names.script (over answers x.0.0 P) answer) (sym same.1) x.2))))
      of_program (inr x) = absurd (one.either n.program.0 board.tables board.program x.0.0 x.0.1 n.program.2 x.1)

  boards-due : (b : ℕ) (names : List Names) (boards : List BoardSource) (answers : List BoardSource → Answer → Type 0) (answer : Answer) → Paired (IsToldBoard told until) names boards
      → OverBoards (unfailing told) until b names answers answer → answers boards answer
  boards-due b [] [] answers answer p h = h
  boards-due b [] (s ∷ boards) answers answer p h = absurd p
  boards-due b (n ∷ names) [] answers answer p h = absurd p
  boards-due b (n ∷ names) (s ∷ boards) answers answer p h =
      boards-due (suc b) names boards (λ bs. answers (s ∷ bs)) answer p.1 (board-due b n s (λ board. OverBoards (unfailing told) until (suc b) names (λ bs. answers (board ∷ bs))) answer p.0 h)

module _ (one : OneAnswer) (told : Telling) (name : List ℕ) (budget : ℕ) (file : ClassFile) (boards : List BoardSource) (n : IsToldClass told name file boards) where
  of-file : (answer : Answer) → RunsClassText (unfailing told) budget n.is.0 answer → RunsClass file boards budget answer
  of-file answer (inl x) =
      (let there : RunsFile (unfailing told) budget file answer =
      subst (λ (f : ClassFile). RunsFile (unfailing told) budget f answer) (same-read x.0 file (Ok file) (sym (one-class n.is.0 (Ok x.0) (Ok file) x.1 n.is.2.1)) refl) x.2 in
      boards-due one told file.end 0 file.boards boards (λ bs. RunsClass file bs budget) answer n.are there)
  of-file answer (inr x) = absurd (class-stands n.is.0 file x.0 n.is.2.1 x.1)

  pub class-due : (answer : Answer) → MayAnswer (unfailing told) (Some (run_class name budget)) answer → RunsClass file boards budget answer
  class-due answer h = of-file answer (file-told (RunsClassText (unfailing told) budget) (unfailing told) name n.is.0 answer n.is.1 n.is.2.0 never h)

  module _ {B : Type 0} (sink : OfSink) (devices : OfDevices B) where
    -- what a call comes to
    abbrev Comes : ℕ → Type 0
    Comes number = (devices.after ≡ devices.before) × (((number ≡ 30) × Took sink.taken_before sink.taken_after [])
        ⊎ ((extent : Extent) × (text : ByteList) × Took sink.taken_before sink.taken_after text × IsClassText file boards budget extent text number × IsRunOfImages file boards budget extent text))

    -- the answer's text
    comes-so : (answer : Answer) (number : ℕ) → RunsClass file boards budget answer → number ≡ status_number (status_of answer) → Took sink.taken_before sink.taken_after (output_of answer)
        → (extent : Extent) × (text : ByteList) × Took sink.taken_before sink.taken_after text × IsClassText file boards budget extent text number × IsRunOfImages file boards budget extent text
    comes-so answer number (inl r) e took = (
      whole,
      r.text,
      subst (λ a. Took sink.taken_before sink.taken_after (output_of a)) r.is took,
      (r.has, e ∙ ap (λ a. status_number (status_of a)) r.is),
      r.images,
    )
    comes-so answer number (inr r) e took = (
      cut,
      r.text,
      subst (λ a. Took sink.taken_before sink.taken_after (output_of a)) r.is took,
      (r.has, e ∙ ap (λ a. status_number (status_of a)) r.is),
      r.images,
    )

    -- no device changes by the run of a class
    stay : (answer : Answer) → RunsClass file boards budget answer → Leaves devices answer → devices.after ≡ devices.before
    stay answer (inl r) leaves = subst (λ a. Leaves devices a) r.is leaves
    stay answer (inr r) leaves = subst (λ a. Leaves devices a) r.is leaves

    by-ending : (rose : Type 0) (ending : Ending) (number : ℕ) → number ≡ ending_number ending → CommandEnds sink devices [] (MayAnswer (record { told = told; rose = rose }) (Some (run_class name budget))) ending
        → (ending ≡ Cut → Rose sink.faults_before sink.faults_after) → ¬ rose → ¬ Rose sink.faults_before sink.faults_after → Comes number
    by-ending rose (Gave given) number e s rises quiet calm =
        let runs = class-due s.0 (onwards (record { told = told; rose = rose }) (unfailing told) (Some (run_class name budget)) s.0 (λ file. refl, quiet) s.1) in
        (stay s.0 runs s.4, inr (comes-so s.0 number runs (e ∙ ap status_number s.2) s.3))
    by-ending rose Cut number e s rises quiet calm = absurd (calm (rises refl))
    by-ending rose NoMemory number e (inl x, p) rises quiet calm = (p, inl (e, x))
    by-ending rose NoMemory number e (inr x, p) rises quiet calm = (p, inl (e, x))

-- what a call comes to that ended so
pub headline-class : (one : OneAnswer) {B : Type 0} {sink : OfSink} {devices : OfDevices B} (files : ToldFiles) (asked : Option Asked) (ending : Ending) (number : ℕ) → number ≡ ending_number ending
    → Concludes sink devices (lead_of asked) (MayAnswer files asked) ending → HeadlineClass files sink devices asked number
headline-class one {B} {sink} {devices} files asked ending number e s = λ name budget file boards is n fine.
    by-ending one files.told name budget file boards n sink devices files.rose ending number e (subst (λ o. CommandEnds sink devices (lead_of o) (MayAnswer files o) ending) is s.ends) s.cut fine.0 fine.1
