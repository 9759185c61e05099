-- Answers to the text of a class.
use Rattle.std.proofs.Common.{ℕ, List, [], refl, sym, subst}
use Rattle.std.proofs.lemmas.List.{append-nil}
use Rattle.class_file.specs.declared.class.Names.{Names}
use Rattle.class_file.specs.declared.class.ClassFile.{ClassFile}
use Rattle.run_tool.specs.declared.class_boards.Boards.{Boards}
use Rattle.run_tool.specs.Answers.{Answer}
use Rattle.run_tool.specs.Files.{ToldFiles}
use Rattle.run_tool.specs.ClassBoards.{BoardSource, OverBoards}
use Rattle.run_tool.specs.inner.{none_to_read, AreReady}
use Rattle.run_tool.specs.Class.{RunsClass, RunsFile, RunsClassText}
use Rattle.run_tool.proofs.Readings.{IsOnward}
use Rattle.run_tool.proofs.ClassAnswers.{class-more, boards-read, boards-onwards, over-boards-more}

-- where a folder tells the same and failed no less
module _ (files files' : ToldFiles) (budget : ℕ) (on : IsOnward files files') where
  pub class-file-onwards : (file : ClassFile) (answer : Answer) → RunsFile files budget file answer → RunsFile files' budget file answer
  class-file-onwards file answer h = boards-onwards files files' file.end on 0 file.boards (λ boards. RunsClass file boards budget) answer h

  pub class-text-onwards : (text : List ℕ) (answer : Answer) → RunsClassText files budget text answer → RunsClassText files' budget text answer
  class-text-onwards text answer h = class-more (RunsFile files budget) (RunsFile files' budget) text answer (λ file x. class-file-onwards file answer x) h

module _ (files : ToldFiles) (budget : ℕ) (file : ClassFile) where
  -- the run of boards that are ready is an answer over their class,
  pub ready-runs : (boards : Boards) (r : AreReady files file.end file.boards boards) (answer : Answer) → RunsClass file r.sources budget answer → RunsFile files budget file answer
  ready-runs boards r answer h =
      (let over = λ (bs : List BoardSource). RunsClass file bs budget in
      subst (λ (ns : List Names). OverBoards files file.end 0 ns over answer) (append-nil file.boards)
      (boards-read files file.end 0 _ file.boards [] r.sources over answer refl r.are (subst (λ (bs : List BoardSource). over bs answer) (sym (append-nil r.sources)) h)))

  -- and so is what was answered where they weren't
  pub not-ready : (answer : Answer) → OverBoards files file.end 0 file.boards none_to_read answer → RunsFile files budget file answer
  not-ready answer h = over-boards-more files file.end 0 file.boards none_to_read (λ boards. RunsClass file boards budget) answer (λ boards x. absurd x) h
